-- How long the texts can be, where every number is one of 64 bits.
use Prim.Native.Nat.{ℕ, zero, suc, ◌+◌, ◌*◌, ◌^◌, ◌≤◌, ◌<◌}
use mathlib.Core.List.{List, [], ◌∷◌}
use native.Mathlib.Omega.{arith}
use lib.ListN.{length, get_or, take, drop, length-append}
use lib.Seq.{get_or-drop}
use Rattle.paper.specs.Sizes.{line_words}
use Rattle.paper.specs.Printed.{decimal, after, line_text, refusal_text, list_text}
use Rattle.text.specs.Room.{number_room}
use Rattle.text.proofs.Digits.{decimal_short}
use Rattle.text.proofs.Lines.{refusal_length}

-- every word is one of 64 bits
abbrev pub Words : List ℕ → Type 0
Words ws = (i : ℕ) → get_or ws i 0 < 2 ^ 64

words-drop : (n : ℕ) (ws : List ℕ) → Words ws → Words (drop n ws)
words-drop n ws h i = rw get_or-drop (h (n + i))

after_short : (k : ℕ) (ws : List ℕ) → Words ws → length (after (take k ws)) ≤ 1 + number_room * k
unfolding after
after_short zero ws h = omega arith
after_short (suc k) [] h = omega arith
after_short (suc k) (w ∷ ws) h =
    omega (arith, length-append (decimal w) (after (take k ws)), decimal_short w (h 0), after_short k ws (λ i. h (suc i)))

pub line_short : (k : ℕ) (ws : List ℕ) → Words ws → 1 ≤ k → length (line_text (take k ws)) ≤ number_room * k
unfolding line_text
line_short zero ws h one = absurd (omega arith)
line_short (suc k) [] h one = omega arith
line_short (suc k) (w ∷ ws) h one =
    omega (arith, length-append (decimal w) (after (take k ws)), decimal_short w (h 0), after_short k ws (λ i. h (suc i)))

-- the first line
pub counts_short : (count refinements : ℕ) → count < 2 ^ 64 → refinements < 2 ^ 64 → length (line_text (count ∷ refinements ∷ [])) ≤ number_room * 2
counts_short count refinements h k = line_short 2 (count ∷ refinements ∷ []) words (omega arith)
  where
    words : Words (count ∷ refinements ∷ [])
    words zero = h
    words (suc zero) = k
    words (suc (suc i)) = omega arith

pub list_short : (k : ℕ) (ws : List ℕ) → Words ws → length (list_text k ws) ≤ number_room * (line_words * k)
unfolding list_text
list_short zero ws h = omega arith
list_short (suc k) ws h =
    omega (
      arith,
      length-append (line_text (take line_words ws)) (list_text k (drop line_words ws)),
      line_short line_words ws h (omega arith),
      list_short k (drop line_words ws) (words-drop line_words ws h),
    )

pub refusal_short : (n : ℕ) → n < 2 ^ 64 → length (refusal_text n) ≤ number_room * 2
refusal_short n h = omega (arith, refusal_length n, decimal_short n h)
