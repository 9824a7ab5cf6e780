-- The blocks up to one of them: each holds, and they ascend without overlap.
use Prim.Native.Nat.{ℕ, zero, suc, ◌+◌, ◌*◌, ◌^◌, ◌≤◌, ◌<◌}
use native.Mathlib.Omega.{arith}
use native.Mathlib.Numerals.{add-one}
use mathlib.Core.Path.{◌≡◌, refl, sym, ◌∙◌}
use mathlib.Core.Bool.{true, false}
use lib.Dec.{leb}
use borrow.Author.Tests.{le-leb, lt-leb}
use Rattle.paper.specs.Sizes.{top_level}
use Rattle.paper.specs.Test.{every}
use Rattle.paper.specs.Map.{Map}
use Rattle.paper.specs.Layout.{block_lies, block_holds, block_ascends, blocks_hold}
use Rattle.paper.proofs.Laid.{BlockOk, block_one}
use Rattle.paper.proofs.Test.{both_true, both_left, both_false_right, every_true, every_false, every_more}
use Rattle.cells.proofs.Fours.{four_most}
use Rattle.sheet.proofs.Pairs.{pair_leb}

-- more than any end of a block
abbrev pub span : ℕ
span = 2 * 4 ^ top_level

-- where a block begins as one number, and where the one before it ends
abbrev pub block_key : Map → ℕ → ℕ
block_key m i = m.owner i * span + m.code i

abbrev pub block_from : Map → ℕ → ℕ
block_from m zero = 0
block_from m (suc i) = block_key m i + 4 ^ m.level i

-- the block i holds: what the keys need of it
pub record Held (m : Map) (i : ℕ) : Type 0 where
  pub more : i < m.blocks
  pub holds : block_holds m i ≡ true
  pub owner : m.owner i < m.places
  pub level : m.level i ≤ top_level
  pub code : m.code i < 4 ^ top_level
  pub cells : 4 ^ m.level i ≤ 4 ^ top_level

pub held : (m : Map) (i : ℕ) → i < m.blocks → block_holds m i ≡ true → Held m i
unfolding block_holds
held m i more h =
    let B : BlockOk m i = block_one m i (both_left (block_lies m i) _ h) in
    record { more = more; holds = h; owner = B.owner; level = B.level; code = B.code; cells = four_most (m.level i) B.level }

pub block_fails : (m : Map) (i : ℕ) → i < m.blocks → block_holds m i ≡ false → false ≡ blocks_hold m
unfolding blocks_hold
block_fails m i more e = rw (every_false m.blocks (block_holds m) i more e)

-- the first i blocks hold and ascend
pub record Blocked (m : Map) (i from : ℕ) : Type 0 where
  pub each : every i (block_holds m) ≡ true
  pub sorted : every i (block_ascends m) ≡ true
  pub next : from ≡ block_from m i

pub blocked_start : (m : Map) → Blocked m 0 0
unfolding every
blocked_start m = record { each = refl; sorted = refl; next = refl }

module _ {m : Map} {i from : ℕ} (B : Blocked m i from) (H : Held m i) where
  -- the test that the code makes is that of the paper
  ascends-by : block_ascends m i ≡ leb from (block_key m i)
  unfolding block_ascends
  ascends-by = rw B.next (go i B.each H)
    where
      go : (i : ℕ) → every i (block_holds m) ≡ true → Held m i → block_ascends m i ≡ leb (block_from m i) (block_key m i)
      go zero h H = sym (le-leb 0 (block_key m 0) (omega arith))
      go (suc j) h H =
          let J : Held m j = held m j (omega (arith, H.more)) (every_true (suc j) (block_holds m) h j (omega arith)) in
          let e : m.owner j * span + (m.code j + 4 ^ m.level j) ≡ block_key m j + 4 ^ m.level j = omega arith in
          rw e at (pair_leb span (m.owner j) (m.code j + 4 ^ m.level j) (m.owner (suc j)) (m.code (suc j)) (omega arith) (omega arith))

  pub overlaps : block_key m i < from → false ≡ blocks_hold m
  unfolding blocks_hold
  overlaps h =
      let e : every m.blocks (block_ascends m) ≡ false = every_false m.blocks (block_ascends m) i H.more (ascends-by ∙ lt-leb from (block_key m i) h) in
      sym (both_false_right (every m.blocks (block_holds m)) _ e)

  pub blocked_step : (n : ℕ) → from ≤ block_key m i → n ≡ block_key m i + 4 ^ m.level i → Blocked m (i + 1) n
  blocked_step n o e = record {
    each = every_more i (block_holds m) B.each H.holds;
    sorted = every_more i (block_ascends m) B.sorted (ascends-by ∙ le-leb from (block_key m i) o);
    next = rw (add-one i) e;
  }

pub blocked_end : {m : Map} {i from : ℕ} → Blocked m i from → i ≡ m.blocks → true ≡ blocks_hold m
unfolding blocks_hold
blocked_end B e = sym (both_true _ _ (rw e at B.each) (rw e at B.sorted))
