-- The ends that a map's blocks give are at most those of the largest ratio over the longest diagonal, and so below 100,000,000,000; those of a true map
-- hold the road distance.
use Prim.Native.Nat.{ℕ, ◌+◌, ◌-◌, ◌*◌, ◌/◌, ◌≤◌, ◌<◌}
use native.Mathlib.Omega.{arith}
use native.Mathlib.Nat.{mul-le-mul}
use mathlib.Core.Path.{◌≡◌, refl}
use mathlib.Core.Option.{Option, some, none}
use lib.Dec.{eqb}
use borrow.Author.Tests.{eqb-true, eqb-false}
use Rattle.paper.specs.Sizes.{ratio_unit, ratio_most}
use Rattle.paper.specs.Map.{Map}
use Rattle.paper.specs.Crow.{crow, crow_most}
use Rattle.paper.specs.Block.{block_of}
use Rattle.paper.specs.Road.{arrived, IsD}
use Rattle.paper.specs.Truth.{Truth, Told}
use Rattle.paper.proofs.LaidOut.{Grounded}
use Rattle.paper.specs.Trail.{Ends, between, ends_by}
use Rattle.paper.specs.Bounds.{Bounded}
use Rattle.paper.proofs.Holds.{On, Any, Holds, on_if, on_map}
use Rattle.paper.proofs.Block.{BlockOf, block_of_lem}
use Rattle.paper.proofs.Crow.{crow_le, crow_longest}

-- the ends of the largest ratio over the longest crow distance
abbrev pub low_most : ℕ
low_most = (ratio_most * crow_most + (ratio_unit - 1)) / ratio_unit

abbrev pub high_most : ℕ
high_most = ratio_most * crow_most / ratio_unit

-- no end is above them
pub record Most (e : Ends) : Type 0 where
  pub low : e.low ≤ low_most
  pub high : e.high ≤ high_most

module _ {m : Map} (G : Grounded m) (u v : ℕ) (hu : u < m.places) (hv : v < m.places) where
  ends-most : (r : Option ℕ) → block_of m u v ≡ r → On Any Most (ends_by m u v r)
  ends-most none e = tt
  ends-most (some b) e =
      let B : BlockOf m u v m.blocks b = block_of_lem m u v b e in
      let h : m.high b ≤ ratio_most = omega (arith, G.ratios b B.under) in
      let l : m.low b ≤ ratio_most = omega (arith, G.ordered b B.under) in
      let c : crow m u v ≤ crow_most = crow_le G u v hu hv in
      omega (arith, mul-le-mul h c, mul-le-mul l c)

  pub between_most : On Any Most (between m u v)
  unfolding between
  between_most = on_if Any Most (eqb u v) _ _ (λ e. omega arith) (λ e. ends-most (block_of m u v) refl)

  pub between_bounded : On Any Bounded (between m u v)
  between_bounded = on_map Any Most Bounded (between m u v) between_most (λ e M. omega (arith, M.low, M.high, crow_longest))

pub at_home : {m : Map} {v d : ℕ} → IsD m v v d → d ≡ 0
at_home D = omega (arith, D.least 0 arrived)

-- the ends e hold d, the road distance from u to v; at v itself they are equal
pub record Right (u v d : ℕ) (e : Ends) : Type 0 where
  pub low : e.low ≤ d
  pub high : d ≤ e.high
  pub home : u ≡ v → e.low ≡ e.high

module _ {m : Map} (T : Truth m) where
  told-right : (u v d : ℕ) → u < m.places → v < m.places → IsD m u v d → (u ≡ v → ⊥) → Holds (Right u v d) (ends_by m u v (block_of m u v))
  told-right u v d hu hv D ne =
      let w : Told m u v = T.told u v hu hv ne in
      rw w.covered (record {
        low = omega (arith, w.tells.low d D);
        high = omega (arith, w.tells.high d D);
        home = λ e. absurd (ne e);
      })

  pub between_right : (u v d : ℕ) → u < m.places → v < m.places → IsD m u v d → Holds (Right u v d) (between m u v)
  unfolding between
  between_right u v d hu hv D =
      on_if (λ n. ⊥) (Right u v d) (eqb u v) _ _
      (λ e. let z : d ≡ 0 = at_home (rw (eqb-true u v e) at D) in record { low = omega arith; high = omega arith; home = λ e'. refl })
      (λ e. told-right u v d hu hv D (eqb-false u v e))
