-- What it is to write a text into a slice of bytes.
use Rattle.std.specs.Prelude.{ℕ, ◌+◌, ◌≤◌, ◌≡◌, Result, Ok, Err, List, ◌++◌, length, take, drop}
use Rattle.paper.specs.declared.Listed.{Listed}
use Rattle.paper.specs.Reply.{Reply}

-- the text stands at `at`, and every byte before and after it is as it was
pub record Put (at : ℕ) (text before after : List ℕ) : Type 0 where
  pub fits : at + length text ≤ length before
  pub whole : after ≡ take at before ++ (text ++ drop (at + length text) before)

-- the same, with the position after the text
pub record Written (at : ℕ) (text before after : List ℕ) (next : ℕ) : Type 0 where
  pub put : Put at text before after
  pub past : next ≡ at + length text

-- the reply that has these parts
abbrev pub reply_of : ℕ → ℕ → ℕ → List ℕ → List ℕ → Reply
reply_of number count refinements answer working = record { number = number; count = count; refinements = refinements; answer = answer; working = working }

-- how many offices are listed
abbrev pub count_of : Result Listed ℕ → ℕ
count_of (Ok l) = l.count
count_of (Err number) = 0
