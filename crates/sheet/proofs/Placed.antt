-- The places up to one of them, each with its cell and its gazetteer number; and the rule of the places by these.
use Prim.Native.Nat.{ℕ, ◌+◌, ◌≤◌, ◌<◌}
use native.Mathlib.Omega.{arith}
use native.Mathlib.Decide.{ℕ_discrete}
use mathlib.Core.Path.{◌≡◌, refl, sym}
use mathlib.Core.Bool.{Bool, true, false, not}
use mathlib.Core.List.{List}
use lib.Dec.{ltb, eqb}
use lib.ListN.{length, take, set}
use lib.Seq.{get_or-set_same, get_or-set_other, get_or-take, length-take-le}
use borrow.Author.Tests.{ltb-true}
use Rattle.paper.specs.Sizes.{grid_side}
use Rattle.paper.specs.Test.{both, every, apart}
use Rattle.paper.specs.Map.{Map}
use Rattle.paper.specs.Layout.{sharing, sharing_number, place_holds, places_hold}
use Rattle.paper.proofs.Test.{both_left, both_right, both_false_left, every_more, apart-same}
use Rattle.differ.specs.Tree.{same}
use Rattle.sheet.specs.Records.{Kept, Taken}
use Rattle.sheet.proofs.Pairs.{pair_eqb}

-- the first i places hold, and their cells and numbers are taken
pub record Placed (m : Map) (i : ℕ) (cells numbers : List ℕ) : Type 0 where
  pub each : every i (place_holds m) ≡ true
  pub taken : Taken m i cells numbers

pub placed_start : (m : Map) (cells numbers : List ℕ) → Placed m 0 cells numbers
unfolding every
placed_start m cells numbers = record { each = refl; taken = λ v p. absurd (omega arith) }

-- a place that holds lies on the grid
pub holds_on_grid : (m : Map) (i : ℕ) → place_holds m i ≡ true → (m.x i < grid_side) × (m.y i < grid_side)
unfolding place_holds
holds_on_grid m i h =
    let x : Bool = ltb (m.x i) grid_side in
    let y : Bool = ltb (m.y i) grid_side in
    let xy : both x y ≡ true = both_left (both x y) (not (eqb (m.gazetteer i) 0)) h in
    (ltb-true _ _ (both_left x y xy), ltb-true _ _ (both_right x y xy))

-- one place more
module _ {m : Map} {i : ℕ} {cells numbers : List ℕ} (P : Placed m i cells numbers) where
  pub placed_step : (n g : ℕ) → place_holds m i ≡ true → Kept m i n g → i < length cells → i < length numbers → Placed m (i + 1) (set cells i n) (set numbers i g)
  placed_step n g h K p q = record { each = every_more i (place_holds m) P.each h; taken = taken }
    where
      taken : Taken m (i + 1) (set cells i n) (set numbers i g)
      taken v l = elim (ℕ_discrete v i) [
        | yes e ↦ rw (e, get_or-set_same cells i n 0 p, get_or-set_same numbers i g 0 q) K
        | no e ↦ rw (get_or-set_other cells i v n 0 e, get_or-set_other numbers i v g 0 e) (P.taken v (omega arith))
      ]

-- what the first n words of the two slices tell of the rule
module _ (m : Map) (n : ℕ) (cells numbers : List ℕ) (e : n ≡ m.places) (p : n ≤ length cells) (q : n ≤ length numbers) where
  module _ (h : every n (place_holds m) ≡ true) (T : Taken m n cells numbers) where
    cells-by : apart (length (take n cells)) (same (take n cells)) ≡ apart n (sharing m)
    cells-by = rw (length-take-le n cells p) (apart-same n (same (take n cells)) (sharing m) (λ i j k l. let J : Kept m j _ _ = T j (omega arith) in let I : Kept m i _ _ = T i k in
        rw (get_or-take n cells j 0 (omega arith), get_or-take n cells i 0 k, J.cell, I.cell) (pair_eqb grid_side (m.x j) (m.y j) (m.x i) (m.y i) J.y I.y)))

    numbers-by : apart (length (take n numbers)) (same (take n numbers)) ≡ apart n (sharing_number m)
    numbers-by = rw (length-take-le n numbers q) (apart-same n (same (take n numbers)) (sharing_number m) (λ i j k l.
        rw (get_or-take n numbers j 0 (omega arith), get_or-take n numbers i 0 k, (T j (omega arith)).gazetteer, (T i k).gazetteer)))

    pub places-by : both (apart (length (take n cells)) (same (take n cells))) (apart (length (take n numbers)) (same (take n numbers))) ≡ places_hold m
    unfolding places_hold
    places-by = rw (cells-by, numbers-by, e, rw e at h)

pub places_fail : (m : Map) (n : ℕ) → n ≡ m.places → every n (place_holds m) ≡ false → false ≡ places_hold m
unfolding places_hold
places_fail m n e h = sym (both_false_left (every m.places (place_holds m)) _ (rw e at h))
