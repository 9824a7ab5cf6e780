-- The marks of the blocks that pairs use.
use Prim.Native.Nat.{ℕ, zero, suc, ◌+◌, ◌≤◌, ◌<◌, min}
use native.Mathlib.Omega.{arith}
use native.Mathlib.Decide.{ℕ_discrete}
use mathlib.Core.Path.{◌≡◌, refl, sym, ap, subst, ◌∙◌}
use mathlib.Core.Bool.{true, false}
use mathlib.Core.Option.{Option, some, none}
use mathlib.Core.List.{List}
use lib.Dec.{eqb}
use lib.ListN.{length, get_or, set, length-set}
use lib.Seq.{get_or-set_same, get_or-set_other}
use borrow.Author.Tests.{eq-eqb, ne_eqb}
use Rattle.paper.specs.Map.{Map}
use Rattle.paper.specs.Block.{covers, block_of}
use Rattle.paper.specs.Truth.{Used}
use Rattle.paper.specs.Ground.{SameGround}
use Rattle.paper.proofs.Block.{BlockOf, block_of_lem}
use Rattle.paper.proofs.Count.{below_suc}
use Rattle.paper.proofs.Ground.{block_same}
use Rattle.truth.specs.Table.{used, marked_by, marked, marked_below}

-- a marked block covers some place other than its own, and the block of each pair of the first k columns, up to a place, is marked
pub record Marks (m : Map) (k place : ℕ) (l : List ℕ) : Type 0 where
  pub long : m.blocks ≤ length l
  pub sound : (b : ℕ) → b < m.blocks → get_or l b 0 ≡ used → Used m b
  pub whole : (u v b : ℕ) → u < place → v < k → (u ≡ v → ⊥) → block_of m u v ≡ some b → get_or l b 0 ≡ used

module _ (m : Map) (u v : ℕ) (l : List ℕ) where
  pub marked_self : u ≡ v → marked m u v l ≡ l
  unfolding marked
  marked_self e = rw (eq-eqb u v e, marked)

  pub marked-apart : (u ≡ v → ⊥) → marked m u v l ≡ marked_by l (block_of m u v)
  unfolding marked
  marked-apart ne = rw (ne_eqb u v ne, marked)

  -- nothing is marked, or the block of the pair is
  by-pair : (P : List ℕ → Type 0) → P l → ((b : ℕ) → (u ≡ v → ⊥) → block_of m u v ≡ some b → P (set l b used)) → P (marked m u v l)
  by-pair P old new = go (ℕ_discrete u v)
    where
      by : (u ≡ v → ⊥) → (r : Option ℕ) → block_of m u v ≡ r → P (marked_by l r)
      by ne none e = old
      by ne (some b) e = new b ne e

      go : Dec (u ≡ v) → P (marked m u v l)
      go (yes e) = subst P (sym (marked_self e)) old
      go (no ne) = subst P (sym (marked-apart ne)) (by ne (block_of m u v) refl)

  mark-size : length (marked m u v l) ≡ length l
  mark-size = by-pair (λ x. length x ≡ length l) refl (λ b ne e. length-set l b used)

  mark-keeps : (b : ℕ) → b < length l → get_or l b 0 ≡ used → get_or (marked m u v l) b 0 ≡ used
  mark-keeps b p h = by-pair (λ x. get_or x b 0 ≡ used) h (λ c ne e. go c (ℕ_discrete b c))
    where
      go : (c : ℕ) → Dec (b ≡ c) → get_or (set l c used) b 0 ≡ used
      go c (yes e) = rw e (get_or-set_same l c used 0 (omega arith))
      go c (no ne) = get_or-set_other l c b used 0 ne ∙ h

  mark-whole : (b : ℕ) → b < length l → (u ≡ v → ⊥) → block_of m u v ≡ some b → get_or (marked m u v l) b 0 ≡ used
  mark-whole b p ne e = rw (marked-apart ne, e) (get_or-set_same l b used 0 p)

  mark-sound : (X : Type 0) (b : ℕ) → (get_or l b 0 ≡ used → X) → ((u ≡ v → ⊥) → block_of m u v ≡ some b → X) → get_or (marked m u v l) b 0 ≡ used → X
  mark-sound X b old new = by-pair (λ x. get_or x b 0 ≡ used → X) old (λ c ne e. go c ne e (ℕ_discrete b c))
    where
      go : (c : ℕ) → (u ≡ v → ⊥) → block_of m u v ≡ some c → Dec (b ≡ c) → get_or (set l c used) b 0 ≡ used → X
      go c ne e (yes q) h = new ne (e ∙ ap some (sym q))
      go c ne e (no q) h = old (sym (get_or-set_other l c b used 0 q) ∙ h)

module _ (m : Map) (v : ℕ) (l : List ℕ) where
  pub marks_size : (k : ℕ) → length (marked_below m v k l) ≡ length l
  unfolding marked_below
  marks_size zero = refl
  marks_size (suc u) = mark-size m u v (marked_below m v u l) ∙ marks_size u

  marks-keep : (k b : ℕ) → b < length l → get_or l b 0 ≡ used → get_or (marked_below m v k l) b 0 ≡ used
  unfolding marked_below
  marks-keep zero b p h = h
  marks-keep (suc u) b p h = mark-keeps m u v (marked_below m v u l) b (omega (arith, marks_size u)) (marks-keep u b p h)

  marks-whole : (k u b : ℕ) → u < k → b < length l → (u ≡ v → ⊥) → block_of m u v ≡ some b → get_or (marked_below m v k l) b 0 ≡ used
  unfolding marked_below
  marks-whole zero u b q p ne e = absurd (omega arith)
  marks-whole (suc k) u b q p ne e =
      let room : b < length (marked_below m v k l) = omega (arith, marks_size k) in
      below_suc (get_or (marked m k v (marked_below m v k l)) b 0 ≡ used) u k q
      (λ s. mark-whole m k v (marked_below m v k l) b room (λ z. ne (s ∙ z)) (rw s at e))
      (λ r. mark-keeps m k v (marked_below m v k l) b room (marks-whole k u b r p ne e))

  -- a block is marked of old, or covers v, which is not its own
  marks-sound : (k b : ℕ) → v < m.places → (get_or l b 0 ≡ used → Used m b) → get_or (marked_below m v k l) b 0 ≡ used → Used m b
  unfolding marked_below
  marks-sound zero b hv old h = old h
  marks-sound (suc u) b hv old h =
      mark-sound m u v (marked_below m v u l) (Used m b) b (marks-sound u b hv old)
      (λ ne e.
      let B : BlockOf m u v m.blocks b = block_of_lem m u v b e in
      record { place = v; under = hv; other = λ z. ne (sym B.owner ∙ sym z); covered = subst (λ (w : ℕ). covers m w v b ≡ true) (sym B.owner) B.covered })
      h

-- maps with one ground have the same marks
module _ {m g : Map} (S : SameGround m g) (v : ℕ) (p : v < m.places) where
  mark-same : (u : ℕ) (l : List ℕ) → marked m u v l ≡ marked g u v l
  unfolding marked
  mark-same u l = ap (λ (r : Option ℕ). elim (eqb u v) as (λ _. List ℕ) [ true ↦ l | false ↦ marked_by l r ]) (block_same S u v p)

  pub marks_same : (k : ℕ) (l : List ℕ) → marked_below g v k l ≡ marked_below m v k l
  unfolding marked_below
  marks_same zero l = refl
  marks_same (suc u) l = sym (mark-same u (marked_below g v u l)) ∙ ap (marked m u v) (marks_same u l)

pub marks_none : (m : Map) (place : ℕ) (l : List ℕ) → m.blocks ≤ length l → ((b : ℕ) → get_or l b 0 ≡ 0) → Marks m 0 place l
marks_none m place l p z = record { long = p; sound = λ b q h. absurd (omega (arith, z b)); whole = λ u v b q r. absurd (omega arith) }

-- column k is gone through as far as a new place, which is not above the old one
pub marks_more : (m : Map) (k old new : ℕ) (l : List ℕ) → k < m.places → new ≤ old → Marks m k old l → Marks m (k + 1) new (marked_below m k (min (new + 1) old) l)
marks_more m k old new l hk h M = record {
  long = omega (arith, M.long, marks_size m k l n);
  sound = λ b p. marks-sound m k l n b hk (M.sound b p);
  whole = λ u v b p q ne e. below_suc (get_or (marked_below m k n l) b 0 ≡ used) v k (omega arith) (λ s. here u v b p ne e s) (λ r. marks-keep m k l n b (room u v b e) (M.whole u v b (omega arith) r ne e));
}
  where
    n : ℕ
    n = min (new + 1) old

    room : (u v b : ℕ) → block_of m u v ≡ some b → b < length l
    room u v b e = omega (arith, M.long, (block_of_lem m u v b e).under)

    here : (u v b : ℕ) → u < new → (u ≡ v → ⊥) → block_of m u v ≡ some b → v ≡ k → get_or (marked_below m k n l) b 0 ≡ used
    here u v b p ne e s = marks-whole m k l n u b (omega arith) (room u v b e) (λ z. ne (z ∙ sym s)) (rw s at e)
