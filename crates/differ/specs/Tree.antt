-- The tree of digits in which words hang, each but the first under an earlier one.
use Rattle.std.specs.Prelude.{ℕ, ◌+◌, ◌*◌, ◌/◌, ◌%◌, ◌≤◌, ◌<◌, ◌≡◌, Bool, List, eqb, length, get_or}
use Rattle.paper.specs.Sizes.{most_places}

-- words j and i are the same
abbrev pub same : List ℕ → ℕ → ℕ → Bool
same words j i = eqb (get_or words j 0) (get_or words i 0)

-- the ways down from a word, one for each digit
abbrev pub ways : ℕ
ways = 8

-- where the words below p begin whose next digit is the lowest of digits; 0 where there are none
abbrev pub kid : List ℕ → ℕ → ℕ → ℕ
kid kids p digits = get_or kids (ways * p + digits % ways) 0

-- from word p the digits lead down to word j
pub data Leads (kids : List ℕ) (j : ℕ) : ℕ → ℕ → Type 0 where
  here : {digits p : ℕ} → p ≡ j → Leads kids j digits p
  down : {digits p : ℕ} → 0 < kid kids p digits → Leads kids j (digits / ways) (kid kids p digits) → Leads kids j digits p

-- the first n words hang in the tree: every way down is to a later one of them, and each is led to by its own digits
pub record Hung (words : List ℕ) (n : ℕ) (kids : List ℕ) : Type 0 where
  pub room : ways * most_places ≤ length kids
  pub later : (p d : ℕ) → 0 < kid kids p d → (p < kid kids p d) × (kid kids p d < n)
  pub led : (j : ℕ) → j < n → Leads kids j (get_or words j 0) 0
