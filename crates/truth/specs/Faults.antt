-- The first faulty pair of a column, and the number that the check ends with.
use Rattle.std.specs.Prelude.{ℕ, ◌<◌, ◌≡◌, ◌⊎◌, true, false, List, ltb, Option, Some, None}
use Rattle.paper.specs.Test.{due}
use Rattle.paper.specs.declared.refusal.Refusal.{Refusal}
use Rattle.paper.specs.Refusal.{number_of}
use Rattle.truth.specs.declared.pairs.Fault as code
use Rattle.truth.specs.Table.{all_used}

-- the first faulty pair so far, by its first place, and what is due for it; the place is N, or where the looking ends, while there is none
pub record Fault : Type 0 where
  pub place : ℕ
  pub number : ℕ

abbrev pub none_below : ℕ → Fault
none_below n = record { place = n; number = 0 }

-- the same as the code has it, where r stands for the number `value r`
abbrev pub found_by : {N : Type 0} → (N → ℕ) → ℕ → Option (code.Fault N) → Fault
found_by value n None = none_below n
found_by value n (Some f) = record { place = f.place; number = value f.refusal }

-- the same where r is a refusal
abbrev pub found_below : ℕ → Option (code.Fault Refusal) → Fault
found_below = found_by number_of

-- of the places below the old fault's, f u being due for u: the first that is faulty, or the old fault where none is
pub record Looked (f : ℕ → ℕ) (old new : Fault) : Type 0 where
  pub clean : (u : ℕ) → u < new.place → f u ≡ 0
  pub found : (new ≡ old) ⊎ ((new.place < old.place) × (f new.place ≡ new.number) × (0 < new.number))

-- the check's number, once all pairs are gone through: the fault's, then 15
unfoldable pub number_of_check : ℕ → ℕ → List ℕ → Fault → ℕ
number_of_check places blocks l f = elim (ltb f.place places) [ true ↦ f.number | false ↦ due (all_used blocks l) 15 ]
