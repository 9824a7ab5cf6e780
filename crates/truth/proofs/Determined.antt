-- The contract of `check` leaves no choice, and its second clause follows from its first.
use Prim.Native.Nat.{ℕ, ◌≤◌}
use mathlib.Core.Path.{◌≡◌}
use mathlib.Core.Logic.{◌↔◌}
use mathlib.Core.List.{List}
use lib.ListN.{length}
use Rattle.paper.specs.Sheet.{map_of}
use Rattle.paper.specs.Layout.{Bytes}
use Rattle.paper.specs.Verdict.{area, Checked, Accepted}
use Rattle.paper.proofs.Laid.{laid_out}
use Rattle.paper.proofs.Checked.{checked_one, checked_truth}

module _ (sheet : List ℕ) (bytes : Bytes sheet) (before : List ℕ) where
  -- any two outcomes that the contract allows are equal: the number, and every word of the slice
  pub check_determined : (r r' : ℕ) (after after' : List ℕ) → Checked sheet before r after → Checked sheet before r' after' → (r ≡ r') × (after ≡ after')
  check_determined r r' after after' = checked_one (laid_out sheet bytes)

  pub rules_give_truth : (r : ℕ) (after : List ℕ) → Checked sheet before r after → area (map_of sheet) ≤ length before → (r ≡ 0) ↔ Accepted sheet
  rules_give_truth r after C long = checked_truth (laid_out sheet bytes) long C
