-- What a direction picks.
use Prim.Native.Nat.{ℕ, ◌<◌}
use mathlib.Core.Path.{◌≡◌}
use mathlib.Core.Bool.{Bool, true, false}
use lib.Dec.{eqb}
use borrow.Author.Tests.{eq-eqb, ne_eqb}
use Rattle.paper.specs.Sizes.{outwardly}
use Rattle.paper.specs.Quest.{by_direction}

module _ (d p r : ℕ) where
  pub by_outward : d ≡ outwardly → by_direction d p r ≡ p
  by_outward e = rw (eq-eqb d outwardly e, by_direction)

  pub by_inward : (d ≡ outwardly → ⊥) → by_direction d p r ≡ r
  by_inward ne = rw (ne_eqb d outwardly ne, by_direction)

  pub by_within : {n : ℕ} → p < n → r < n → by_direction d p r < n
  by_within {n} a b = go (eqb d outwardly)
    where
      go : (t : Bool) → elim t [ true ↦ p | false ↦ r ] < n
      go true = a
      go false = b
