-- A table that no stage makes smaller and that passes the check's tests holds the road distances.
use Prim.Native.Nat.{ℕ, zero, suc, ◌+◌, ◌≤◌, ◌<◌}
use native.Mathlib.Omega.{arith}
use native.Mathlib.Decide.{ℕ_discrete}
use mathlib.Core.Path.{◌≡◌}
use mathlib.Core.Bool.{Bool, true}
use lib.Dec.{leb, eqb}
use borrow.Author.Tests.{leb-true, eqb-true}
use Rattle.paper.specs.Test.{both, every}
use Rattle.paper.specs.Map.{Map}
use Rattle.paper.specs.Stage.{stage_of}
use Rattle.paper.specs.Road.{Road, arrived, along}
use Rattle.paper.proofs.LaidOut.{LaidOut}
use Rattle.paper.specs.Verdict.{verdict, Distances}
use Rattle.paper.proofs.Test.{both_left, both_right, every_true}
use Rattle.paper.proofs.Block.{BlockOf, block_of_lem, named_under}
use Rattle.paper.proofs.Road.{road_least}
use Rattle.paper.proofs.Verdict.{Pair, pair, verdict_pair}

-- no stage makes a road to v shorter than the table says
unfoldable pub relaxed : Map → (ℕ → ℕ → ℕ) → ℕ → Bool
unfolding every
relaxed m d v = every m.stages (λ i. leb (d (m.tail i) v) (m.furlongs i + d (m.head i) v))

unfoldable pub settled : Map → (ℕ → ℕ → ℕ) → Bool
unfolding every relaxed
settled m d = every m.places (λ v. both (eqb (d v v) 0) (relaxed m d v))

module _ {m : Map} (L : LaidOut m) (d : ℕ → ℕ → ℕ) (h : settled m d ≡ true) (g : verdict m d ≡ 0) where
  at-v : (v : ℕ) → v < m.places → both (eqb (d v v) 0) (relaxed m d v) ≡ true
  unfolding settled
  at-v = every_true m.places (λ v. both (eqb (d v v) 0) (relaxed m d v)) h

  self : (v : ℕ) → v < m.places → d v v ≡ 0
  self v hv = eqb-true (d v v) 0 (both_left (eqb (d v v) 0) (relaxed m d v) (at-v v hv))

  stages-hold : (v : ℕ) → v < m.places → (i : ℕ) → i < m.stages → d (m.tail i) v ≤ m.furlongs i + d (m.head i) v
  unfolding relaxed
  stages-hold v hv i p =
      leb-true _ _ (every_true m.stages (λ i. leb (d (m.tail i) v) (m.furlongs i + d (m.head i) v)) (both_right (eqb (d v v) 0) (relaxed m d v) (at-v v hv)) i p)

  road-step : (u v : ℕ) → u < m.places → v < m.places → ((x : ℕ) → x < m.places → d x v < d u v → Road m v x (d x v)) → Road m v u (d u v)
  road-step u v hu hv rest = go (ℕ_discrete u v)
    where
      go : Dec (u ≡ v) → Road m v u (d u v)
      go (yes e) = rw (e, self v hv) arrived
      go (no ne) =
          let P : Pair m d u v = pair m d u v ne (verdict_pair m d g u v hu hv) in
          let B : BlockOf m u v m.blocks P.block = block_of_lem m u v P.block P.covered in
          let i : ℕ = stage_of m u (m.colour P.block) in
          let in-range : i < m.stages = named_under L u v P.block P.covered in
          let leaves : m.tail i ≡ u = rw B.owner at (L.leaves P.block B.under) in
          rw P.colour at (along i in-range leaves (rest (m.head i) (L.heads i in-range) (omega (arith, L.long i in-range))))

  road-within : (v : ℕ) → v < m.places → (f u : ℕ) → u < m.places → d u v ≤ f → Road m v u (d u v)
  road-within v hv zero u hu le = road-step u v hu hv (λ x p lt. absurd (omega arith))
  road-within v hv (suc f) u hu le = road-step u v hu hv (λ x p lt. road-within v hv f x p (omega arith))

  pub table_distances : Distances m d
  table_distances u v hu hv = record {
    road = road-within v hv (d u v) u hu (omega arith);
    least = λ l r. road_least (λ w. d w v) (self v hv) (stages-hold v hv) r;
  }
