-- The blocks ascend by their keys, and the last whose key is at most that of a place and a code is the only one that can cover it.
use Prim.Native.Nat.{ℕ, ◌+◌, ◌-◌, ◌/◌, ◌^◌, ◌≤◌, ◌<◌}
use native.Mathlib.Omega.{arith}
use native.Mathlib.Decide.{dec_lt}
use mathlib.Core.Path.{◌≡◌, refl, ap, sym, ◌∙◌}
use mathlib.Core.Bool.{Bool, true, false}
use lib.Dec.{leb, ltb, eqb}
use native.Mathlib.Nat.{one-le-pow}
use borrow.Author.Tests.{eqb-true, leb-true, ltb-true, eq-eqb, ne_eqb, le-leb, lt-leb}
use Rattle.paper.specs.Sizes.{top_level}
use Rattle.paper.specs.Test.{both}
use Rattle.paper.specs.Map.{Map}
use Rattle.paper.specs.Cell.{cell}
use Rattle.paper.specs.Block.{covers}
use Rattle.paper.proofs.LaidOut.{Grounded}
use Rattle.cells.proofs.Codes.{code_lt}
use Rattle.paper.proofs.Test.{true_false, both_left, both_right, both_false_left, both_false_right}
use Rattle.paper.proofs.Block.{block_is, block_none_of}
use Rattle.std.specs.Prelude.{Option, Some, None}
use Rattle.quadtree.specs.Blocks.{Found, key_of, key_at, Last, covers_code, cover_of, CoverIs}

-- the code of every place is one of the grid's
pub cell_lt : (m : Map) (v k : ℕ) → k ≡ cell m v → k < 4 ^ top_level
unfolding cell
cell_lt m v k e = rw e (code_lt (m.x v) (m.y v))

-- the block that is sought is one of the span blocks from last on
pub record Narrow (m : Map) (k last span : ℕ) : Type 0 where
  pub some : 1 ≤ span
  pub under : last + span ≤ m.blocks
  pub reached : 1 ≤ last → key_at m last ≤ k
  pub above : (i : ℕ) → last + span ≤ i → i < m.blocks → k < key_at m i

-- the block i is u's, and the code is in it
record Within (m : Map) (u code i : ℕ) : Type 0 where
  owner : m.owner i ≡ u
  from : m.code i ≤ code
  to : code < m.code i + 4 ^ m.level i

within : (m : Map) (u code i : ℕ) → covers_code m u code i ≡ true → Within m u code i
unfolding covers_code
within m u code i h =
    let a : Bool = eqb (m.owner i) u in
    let b : Bool = leb (m.code i) code in
    let c : Bool = ltb code (m.code i + 4 ^ m.level i) in
    record {
      owner = eqb-true _ _ (both_left a (both b c) h);
      from = leb-true _ _ (both_left b c (both_right a (both b c) h));
      to = ltb-true _ _ (both_right b c (both_right a (both b c) h));
    }

-- the tests of a block as the code makes them, on the words that it read
module _ (m : Map) (u code b : ℕ) where
  pub covers_other : (o : ℕ) → o ≡ m.owner b → (o ≡ u → ⊥) → false ≡ covers_code m u code b
  unfolding covers_code
  covers_other o e ne = rw (← e, ne_eqb o u ne)

  pub covers_before : (f : ℕ) → f ≡ m.code b → code < f → false ≡ covers_code m u code b
  unfolding covers_code
  covers_before f e p = sym (both_false_right (eqb (m.owner b) u) _ (both_false_left (leb (m.code b) code) _ (lt-leb _ _ (rw e at p))))

  pub covers_from : (o f l n : ℕ) → o ≡ m.owner b → o ≡ u → f ≡ m.code b → f ≤ code → l ≡ m.level b → n ≡ 4 ^ l
      → ltb code (f + n) ≡ covers_code m u code b
  unfolding covers_code
  covers_from o f l n e p g q d h = rw (← e, ← g, ← d, eq-eqb o u p, le-leb f code q, h)

module _ {m : Map} (G : Grounded m) where
  pub key_rises : (b c : ℕ) → b < c → c < m.blocks → key_at m b < key_at m c
  key_rises b c p q = go (dec_lt (m.owner b) (m.owner c))
    where
      go : Dec (m.owner b < m.owner c) → key_at m b < key_at m c
      go (yes l) = omega (arith, G.codes b (omega arith))
      go (no l) =
          let same : m.owner b ≡ m.owner c = omega (arith, G.grouped b c p q) in
          omega (arith, G.parted b c p q same, one-le-pow (m.level b) 4 (omega arith))

  -- the key in the middle is at most the one asked for, or above it
  pub narrow_up : (k last span : ℕ) → Narrow m k last span → 1 < span → key_at m (last + span / 2) ≤ k → Narrow m k (last + span / 2) (span - span / 2)
  narrow_up k last span N h p = record {
    some = omega arith;
    under = omega (arith, N.under);
    reached = λ q. p;
    above = λ i q r. N.above i (omega arith) r;
  }

  pub narrow_down : (k last span : ℕ) → Narrow m k last span → 1 < span → k < key_at m (last + span / 2) → Narrow m k last (span - span / 2)
  narrow_down k last span N h p = record {
    some = omega arith;
    under = omega (arith, N.under);
    reached = N.reached;
    above = λ i q r. go i r (dec_lt (last + span / 2) i) q;
  }
    where
      go : (i : ℕ) → i < m.blocks → Dec (last + span / 2 < i) → last + (span - span / 2) ≤ i → k < key_at m i
      go i r (yes l) q = omega (arith, key_rises (last + span / 2) i l r)
      go i r (no l) q = let e : i ≡ last + span / 2 = omega arith in rw e p

  -- no two answers for a code
  pub cover_one : (u code : ℕ) (r r' : Option ℕ) → Found m u code r → Found m u code r' → r ≡ r'
  cover_one u code (Some b) (Some c) (p, t) (p', t') = ap Some (same (dec_lt b c) (dec_lt c b))
    where
      B : Within m u code b
      B = within m u code b t

      C : Within m u code c
      C = within m u code c t'

      same : Dec (b < c) → Dec (c < b) → b ≡ c
      same (yes l) q = absurd (omega (arith, G.parted b c l p' (B.owner ∙ sym C.owner), B.to, C.from))
      same (no l) (yes q) = absurd (omega (arith, G.parted c b q p (C.owner ∙ sym B.owner), C.to, B.from))
      same (no l) (no q) = omega arith
  cover_one u code (Some b) None (p, t) none-does = true_false t (none-does b p)
  cover_one u code None (Some c) none-does (p, t) = true_false t (none-does c p)
  cover_one u code None None f g = refl

  module _ (u code r : ℕ) (h : code < 4 ^ top_level) (Z : Last m (key_of u code) r) where
    -- no other block covers the code
    only : (b : ℕ) → b < m.blocks → covers_code m u code b ≡ true → b ≡ r
    only b p t = go (dec_lt r b) (dec_lt b r)
      where
        W : Within m u code b
        W = within m u code b t

        go : Dec (r < b) → Dec (b < r) → b ≡ r
        go (yes l) q = absurd (omega (arith, Z.above b l p, W.owner, W.from))
        go (no l) (yes q) =
            let up : key_at m r ≤ key_of u code = Z.reached (omega arith) in
            let same : m.owner b ≡ m.owner r = omega (arith, W.owner, G.grouped b r q Z.under) in
            absurd (omega (arith, W.owner, W.to, G.parted b r q Z.under same))
        go (no l) (no q) = omega arith

    pub cover-some : covers_code m u code r ≡ true → CoverIs m u code (Some r)
    unfolding covers covers_code
    cover-some t = record { found = (Z.under, t); block = λ v e. sym (ap cover_of (block_is G u v r Z.under (rw e t))) }

    pub cover-none : covers_code m u code r ≡ false → CoverIs m u code None
    unfolding covers covers_code
    cover-none t = record { found = none-does; block = λ v e. sym (ap cover_of (block_none_of m u v (λ b p. rw e (none-does b p)))) }
      where
        none-does : (b : ℕ) → b < m.blocks → covers_code m u code b ≡ false
        none-does b p = go (covers_code m u code b) refl
          where
            go : (x : Bool) → covers_code m u code b ≡ x → covers_code m u code b ≡ false
            go true e = let same : b ≡ r = only b p e in rw same t
            go false e = e

  pub cover_empty : (u code : ℕ) → m.blocks ≡ 0 → CoverIs m u code None
  unfolding covers covers_code
  cover_empty u code h = record { found = λ b p. absurd (omega arith); block = λ v e. sym (ap cover_of (block_none_of m u v (λ b p. absurd (omega arith)))) }
