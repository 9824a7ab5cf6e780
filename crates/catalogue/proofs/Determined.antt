-- The contracts of the two entries leave no choice: any two outcomes that they allow are equal.
use Prim.Native.Nat.{ℕ}
use mathlib.Core.Path.{◌≡◌, sym, ◌∙◌}
use mathlib.Core.List.{List}
use Rattle.paper.specs.Layout.{Bytes}
use Rattle.paper.specs.Host.{HostChecked, host_reply}
use Rattle.paper.proofs.Laid.{laid_out}
use Rattle.paper.proofs.Host.{host_checked_one}
use Rattle.catalogue.specs.Handed.{handed}

-- the number, and every byte of the slice
pub atlas_check_one : (s : List ℕ) → Bytes s → (before : List ℕ) (r r' : ℕ) (after after' : List ℕ) → HostChecked s before r after → HostChecked s before r' after'
    → (r ≡ r') × (after ≡ after')
atlas_check_one s bytes before r r' after after' = host_checked_one (laid_out s bytes)

-- the number, and every byte of the three slices, as one record
pub atlas_question_one : (s : List ℕ) (q k d : ℕ) (a w c : List ℕ) (r r' : ℕ) (a' w' c' a'' w'' c'' : List ℕ) → handed r a' w' c' ≡ host_reply s q k d a w c
    → handed r' a'' w'' c'' ≡ host_reply s q k d a w c → handed r a' w' c' ≡ handed r' a'' w'' c''
atlas_question_one s q k d a w c r r' a' w' c' a'' w'' c'' e e' = e ∙ sym e'
