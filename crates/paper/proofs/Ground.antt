-- Maps with one ground have the same cells, crow distances, blocks, intervals and first trails.
use Prim.Native.Nat.{ℕ, zero, suc, ◌≤◌, ◌<◌}
use native.Mathlib.Omega.{arith}
use mathlib.Core.Path.{◌≡◌, refl, ap, ◌∙◌}
use mathlib.Core.Bool.{Bool, true, false}
use mathlib.Core.Option.{Option, some, none}
use lib.Dec.{eqb}
use Rattle.paper.specs.Map.{Map}
use Rattle.paper.specs.Cell.{cell}
use Rattle.paper.specs.Crow.{crow}
use Rattle.paper.specs.Block.{covers, block_below, block_of}
use Rattle.paper.specs.Served.{Served, served, and_then}
use Rattle.paper.specs.Trail.{Ends, Trail, between, ends_by, tested, fresh, start}
use Rattle.paper.specs.Quest.{Quest}
use Rattle.paper.specs.Listing.{starts}
use Rattle.paper.specs.Ground.{SameGround}
use Rattle.paper.proofs.Block.{BlockOf, block_of_lem}

-- every map has its own ground
pub same_refl : (m : Map) → SameGround m m
same_refl m = record {
  places = refl;
  x = λ v p. refl;
  y = λ v p. refl;
  gazetteer = λ v p. refl;
  blocks = refl;
  owner = λ b p. refl;
  code = λ b p. refl;
  level = λ b p. refl;
  colour = λ b p. refl;
  low = λ b p. refl;
  high = λ b p. refl;
}

module _ {m g : Map} (S : SameGround m g) where
  pub cell_same : (v : ℕ) → v < m.places → cell m v ≡ cell g v
  unfolding cell
  cell_same v p = rw (S.x v p, S.y v p)

  pub crow-same : (u v : ℕ) → u < m.places → v < m.places → crow m u v ≡ crow g u v
  unfolding crow
  crow-same u v p q = rw (S.x u p, S.x v q, S.y u p, S.y v q)

  pub covers-same : (u v b : ℕ) → v < m.places → b < m.blocks → covers m u v b ≡ covers g u v b
  unfolding covers
  covers-same u v b q p = rw (S.owner b p, S.code b p, S.level b p, cell_same v q)

  below-same : (u v k : ℕ) → v < m.places → k ≤ m.blocks → block_below m u v k ≡ block_below g u v k
  unfolding block_below
  below-same u v zero q p = refl
  below-same u v (suc b) q p =
      ap (λ (t : Bool). elim t as (λ _. Option ℕ) [ true ↦ some b | false ↦ block_below m u v b ]) (covers-same u v b q (omega arith))
      ∙ ap (λ (r : Option ℕ). elim (covers g u v b) as (λ _. Option ℕ) [ true ↦ some b | false ↦ r ]) (below-same u v b q (omega arith))

  pub block_same : (u v : ℕ) → v < m.places → block_of m u v ≡ block_of g u v
  unfolding block_of
  block_same u v q = below-same u v m.blocks q (omega arith) ∙ ap (block_below g u v) S.blocks

  ends_same : (u v : ℕ) → u < m.places → v < m.places → (r : Option ℕ) → block_of m u v ≡ r → ends_by m u v r ≡ ends_by g u v r
  ends_same u v p q none e = refl
  ends_same u v p q (some b) e =
      let B : BlockOf m u v m.blocks b = block_of_lem m u v b e in
      rw (S.low b B.under, S.high b B.under, crow-same u v p q)

  pub between-same : (u v : ℕ) → u < m.places → v < m.places → between m u v ≡ between g u v
  unfolding between
  between-same u v p q =
      let e : ends_by m u v (block_of m u v) ≡ ends_by g u v (block_of g u v) = ends_same u v p q (block_of m u v) refl ∙ ap (ends_by g u v) (block_same u v q) in
      ap (λ (r : Served Ends). elim (eqb u v) as (λ _. Served Ends) [ true ↦ served (record { low = 0; high = 0 }) | false ↦ r ]) e

  pub start-same : (u v : ℕ) → u < m.places → v < m.places → start m u v ≡ start g u v
  unfolding start
  start-same u v p q = ap {B = Served Trail} (λ r. and_then r (λ e. tested (fresh u e))) (between-same u v p q)

  -- the first trails of a quest whose roads run between places
  pub starts-same : (x : Quest) (n : ℕ) → ((i : ℕ) → i < n → x.from i < m.places) → ((i : ℕ) → i < n → x.to i < m.places) → starts m x n ≡ starts g x n
  unfolding starts
  starts-same x zero f t = refl
  starts-same x (suc i) f t = rw (starts-same x i (λ j p. f j (omega arith)) (λ j p. t j (omega arith)), start-same (x.from i) (x.to i) (f i (omega arith)) (t i (omega arith)))
