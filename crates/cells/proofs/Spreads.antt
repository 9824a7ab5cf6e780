-- The rule of the spread, proved at every coordinate by one test that the checker computes.
use Prim.Native.Nat.{ℕ, ◌<◌}
use mathlib.Core.Path.{◌≡◌}
use mathlib.Core.Bool.{Bool, true}
use lib.Dec.{eqb}
use borrow.Author.Tests.{eqb-true}
use Rattle.paper.specs.Sizes.{grid_side}
use Rattle.paper.specs.Test.{every}
use Rattle.paper.specs.Cell.{spread}
use Rattle.paper.proofs.Test.{every_true}
use Rattle.cells.specs.Cells.{moved_apart, MovedApart}

-- every coordinate, moved apart four times, is spread: by s₁ with k₁ kept, then by s₂ with k₂ kept, and so on
abbrev pub spreads : (s₁ k₁ s₂ k₂ s₃ k₃ s₄ k₄ : ℕ) → Bool
spreads s₁ k₁ s₂ k₂ s₃ k₃ s₄ k₄ = every grid_side (λ x. eqb (moved_apart s₄ k₄ (moved_apart s₃ k₃ (moved_apart s₂ k₂ (moved_apart s₁ k₁ x)))) (spread x))

pub spread_is : {s₁ k₁ s₂ k₂ s₃ k₃ s₄ k₄ x a b c r : ℕ} → MovedApart s₁ k₁ x a → MovedApart s₂ k₂ a b → MovedApart s₃ k₃ b c → MovedApart s₄ k₄ c r
    → x < grid_side → spreads s₁ k₁ s₂ k₂ s₃ k₃ s₄ k₄ ≡ true → r ≡ spread x
spread_is A B C R h t = rw (R.is, C.is, B.is, A.is) (eqb-true _ _ (every_true grid_side _ t _ h))
