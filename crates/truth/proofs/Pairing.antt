-- What is due for a pair, by its tests one after the other; and a column, pair by pair.
use Prim.Native.Nat.{ℕ, ◌+◌, ◌*◌, ◌≤◌, ◌<◌, min}
use native.Mathlib.Omega.{arith}
use native.Mathlib.Numerals.{add-one}
use mathlib.Core.Path.{◌≡◌, refl, sym, ap, ◌∙◌}
use mathlib.Core.Logic.{inl, inr}
use mathlib.Core.Bool.{Bool, true, false}
use mathlib.Core.Option.{some, none}
use mathlib.Core.List.{List}
use lib.Dec.{leb, eqb}
use lib.ListN.{length, get_or}
use Rattle.paper.specs.Sizes.{ratio_unit}
use Rattle.paper.specs.Map.{Map}
use Rattle.paper.specs.Crow.{crow}
use Rattle.paper.specs.Stage.{stage_of}
use Rattle.paper.specs.Block.{block_of}
use Rattle.paper.specs.Ground.{SameGround}
use Rattle.paper.specs.Verdict.{fault_by, fault}
use Rattle.paper.proofs.Block.{BlockOf, block_of_lem}
use Rattle.paper.proofs.Count.{below_all}
use Rattle.paper.proofs.Ground.{crow-same}
use Rattle.paper.proofs.Verdict.{apart, fault_self}
use Rattle.quadtree.proofs.Charts.{Led}
use Rattle.truth.specs.Table.{marked_by, marked, marked_below}
use Rattle.truth.specs.Faults.{Fault, Looked}
use Rattle.truth.specs.Pairs.{by_column, Own, colour_true, ratios_true}
use Rattle.truth.proofs.Marking.{marked_self, marked-apart, marks_size}

pub own_block : (m : Map) (u v b : ℕ) → block_of m u v ≡ some b → Own m u b
own_block m u v b e = let B : BlockOf m u v m.blocks b = block_of_lem m u v b e in record { under = B.under; owner = B.owner }

-- the lengths that the code adds and compares are those of the stage that the block names
pub colour_decides : {m : Map} (heads lengths column : List ℕ) (u b i x y z : ℕ) → Led m heads lengths u b i
    → x ≡ get_or lengths i 0 → y ≡ get_or column (get_or heads i 0) 0 → z ≡ get_or column u 0 → eqb (x + y) z ≡ colour_true m column u b
colour_decides {m} heads lengths column u b i x y z L ex ey ez =
    let a : x ≡ m.furlongs (stage_of m u (m.colour b)) = ex ∙ L.furlongs ∙ ap m.furlongs L.is in
    let h : y ≡ get_or column (m.head (stage_of m u (m.colour b))) 0 = ey ∙ ap (λ (k : ℕ). get_or column k 0) (L.head ∙ ap m.head L.is) in
    rw (a, h, ez)

-- the ratios of b, one after the other, as the code reads them
module _ (m : Map) (b c d low x : ℕ) (r : Bool) (low-is : low ≡ m.low b) (crow_is : x ≡ c) (test : r ≡ leb (low * x) (ratio_unit * d)) where
  low-test : r ≡ leb (m.low b * c) (ratio_unit * d)
  low-test = rw (low-is, crow_is) at test

  pub low_fails : r ≡ false → false ≡ ratios_true m b c d
  low_fails h = rw (sym low-test ∙ h)

  pub high_decides : r ≡ true → (high : ℕ) (q : Bool) → high ≡ m.high b → q ≡ leb (ratio_unit * d) (high * x) → q ≡ ratios_true m b c d
  high_decides h high q e t = rw (sym low-test ∙ h) (rw (e, crow_is) at t)

-- maps with one ground have the same ratios over the same crow distances
pub ratios_same : {m g : Map} → SameGround m g → (u v b d : ℕ) → u < m.places → v < m.places → b < m.blocks
    → ratios_true m b (crow m u v) d ≡ ratios_true g b (crow g u v) d
ratios_same S u v b d p q r = rw (S.low b r, S.high b r, crow-same S u v p q)

module _ (m : Map) (column : List ℕ) (u v b : ℕ) where
  pub due_13 : colour_true m column u b ≡ false → 13 ≡ fault_by m (by_column column) u v (some b)
  due_13 h = rw h

  pub due_14 : colour_true m column u b ≡ true → ratios_true m b (crow m u v) (get_or column u 0) ≡ false → 14 ≡ fault_by m (by_column column) u v (some b)
  due_14 h r = rw (h, r)

  pub due_none : colour_true m column u b ≡ true → ratios_true m b (crow m u v) (get_or column u 0) ≡ true → 0 ≡ fault_by m (by_column column) u v (some b)
  due_none h r = rw (h, r)

-- a place and itself; a pair that no block covers; a pair and its block
module _ (m : Map) (d : ℕ → ℕ → ℕ) (u v : ℕ) where
  pub fault_home : u ≡ v → 0 ≡ fault m d u v
  fault_home e = sym (fault_self m d u v e)

  pub fault_none : (u ≡ v → ⊥) → block_of m u v ≡ none → 12 ≡ fault m d u v
  fault_none ne e = sym (apart m d u v ne ∙ ap (fault_by m d u v) e)

  pub fault_some : (b r : ℕ) → (u ≡ v → ⊥) → block_of m u v ≡ some b → r ≡ fault_by m d u v (some b) → r ≡ fault m d u v
  fault_some b r ne e h = h ∙ sym (apart m d u v ne ∙ ap (fault_by m d u v) e)

module _ (g : Map) (u v : ℕ) (l : List ℕ) where
  pub mark_home : u ≡ v → l ≡ marked g u v l
  mark_home e = sym (marked_self g u v l e)

  pub mark_none : (u ≡ v → ⊥) → block_of g u v ≡ none → l ≡ marked g u v l
  mark_none ne e = sym (marked-apart g u v l ne ∙ ap (marked_by l) e)

  pub mark_some : (b : ℕ) → (u ≡ v → ⊥) → block_of g u v ≡ some b → marked_by l (some b) ≡ marked g u v l
  mark_some b ne e = sym (marked-apart g u v l ne ∙ ap (marked_by l) e)

-- nothing is due for the first k places
abbrev pub Clean : (ℕ → ℕ) → ℕ → Type 0
Clean f k = (u : ℕ) → u < k → f u ≡ 0

pub clean_none : (f : ℕ → ℕ) → Clean f 0
clean_none f u p = absurd (omega arith)

module _ (f : ℕ → ℕ) (k : ℕ) (old : Fault) (C : Clean f k) where
  pub clean_more : f k ≡ 0 → Clean f (k + 1)
  clean_more z u p = below_all (λ u. f u ≡ 0) k C z u (omega arith)

  pub looked_stop : (r : ℕ) → k < old.place → r ≡ f k → (r ≡ 0 → ⊥) → Looked f old (record { place = k; number = r })
  looked_stop r more e ne = record { clean = C; found = inr (more, sym e, omega arith) }

  pub looked_all : old.place ≤ k → Looked f old old
  looked_all h = record { clean = λ u p. C u (omega arith); found = inl refl }

-- the first k pairs of column v are gone through, and the marks are l
pub record Gone (g : Map) (v k : ℕ) (old : Fault) (l₀ l : List ℕ) : Type 0 where
  pub upto : k ≤ old.place
  pub marks : l ≡ marked_below g v k l₀

module _ (g : Map) (v : ℕ) (old : Fault) where
  pub gone_none : (l : List ℕ) → Gone g v 0 old l l
  unfolding marked_below
  gone_none l = record { upto = omega arith; marks = refl }

  module _ (k : ℕ) (l₀ l : List ℕ) (G : Gone g v k old l₀ l) where
    pub gone-size : length l ≡ length l₀
    gone-size = ap length G.marks ∙ marks_size g v l₀ k

    module _ (l' : List ℕ) (more : k < old.place) (next : l' ≡ marked g k v l) where
      marks-next : l' ≡ marked_below g v (k + 1) l₀
      unfolding marked_below
      marks-next = next ∙ ap (marked g k v) G.marks ∙ ap (λ (n : ℕ). marked_below g v n l₀) (sym (add-one k))

      pub gone-more : Gone g v (k + 1) old l₀ l'
      gone-more = record { upto = omega arith; marks = marks-next }

      pub gone-stop : l' ≡ marked_below g v (min (k + 1) old.place) l₀
      gone-stop = let n : k + 1 ≡ min (k + 1) old.place = omega arith in marks-next ∙ ap (λ (n : ℕ). marked_below g v n l₀) n

    pub gone-all : old.place ≤ k → l ≡ marked_below g v (min (old.place + 1) old.place) l₀
    gone-all h = let n : k ≡ min (old.place + 1) old.place = omega (arith, G.upto) in G.marks ∙ ap (λ (n : ℕ). marked_below g v n l₀) n
