-- `sheet::blocks::blocks_hold` meets its contract. The invariant is `Blocked`: the first i blocks hold and ascend.
use mathlib.Core.Path.{◌≡◌, sym, ◌∙◌}
use Prim.Native.Nat.{◌^◌, ◌<◌, ◌≤◌}
use native.Mathlib.Omega.{arith}
use Rattle.paper.specs.Sizes.{most_places, top_level}
use Rattle.paper.specs.Layout.{block_holds}
use Rattle.paper.specs.Sheet.{map_of}
use Rattle.sheet.proofs.Blocked.{Held, held, block_fails, blocked_start, blocked_step, blocked_end, overlaps}
use Rattle.sheet.proofs.Room.{room}
use Rattle.sheet.proofs.blocks.blocks_hold.Goals.{After-block_holds, After-cells_under, Else-not-block_holds}
use Rattle.sheet.proofs.blocks.blocks_hold.Goals as goal

-- the test of the block is that of the paper
tested : (c : After-block_holds) → c.block_holds.result ≡ block_holds (map_of c.args.parts.now.bytes.now) c.loop-i.i
tested c = c.block_holds.ensures _ _ (sym c.args.parts.now.parted.places) c.requires.leaving c.read_block-block.ensures

-- in the branch where it holds, and what the sums need there
holds : (c : Else-not-block_holds) → Held (map_of c.args.parts.now.bytes.now) c.loop-i.i
holds c = held _ _ (omega (arith, (room _ _ c.args.parts.now.parted))) (sym ((c.block_holds.ensures _ _ (sym c.args.parts.now.parted.places) c.requires.leaving c.read_block-block.ensures)) ∙ c.if-not-block_holds.false)

small : (c : Else-not-block_holds) → let b = c.read_block-block.result in (b.owner < most_places) × (b.code < 4 ^ top_level) × (b.level ≤ top_level)
small c = omega (arith, holds c, c.read_block-block.ensures, (room _ _ c.args.parts.now.parted))

cells : (c : After-cells_under) → c.cells_under.result ≡ 4 ^ (map_of c.args.parts.now.bytes.now).level c.loop-i.i
cells c = rw c.read_block-block.ensures.level c.cells_under.ensures

pub blocks_at-at-requires : goal.blocks_at-at-requires
blocks_at-at-requires c = (room _ _ c.args.parts.now.parted).within

pub loop-i-init : goal.loop-i-init
loop-i-init c = (omega arith, blocked_start _)

pub read_block-block-requires : goal.read_block-block-requires
read_block-block-requires c = let R = room _ _ c.args.parts.now.parted in (omega (arith, R), omega (arith, R))

pub returns-then-not-block_holds : goal.returns-then-not-block_holds
returns-then-not-block_holds c = block_fails _ _ (omega (arith, room _ _ c.args.parts.now.parted)) (sym (tested (goal.at.returns-then-not-block_holds c).After-block_holds) ∙ c.if-not-block_holds.true)

pub overflow_mul-key : goal.overflow_mul-key
overflow_mul-key c = omega (arith, small (goal.at.overflow_mul-key c).Else-not-block_holds)

pub overflow_add-key : goal.overflow_add-key
overflow_add-key c = omega (arith, small (goal.at.overflow_add-key c).Else-not-block_holds)

pub returns-then-key-from : goal.returns-then-key-from
returns-then-key-from c = overlaps c.loop-i.invariant.1 (holds (goal.at.returns-then-key-from c).Else-not-block_holds) (omega (arith, c.read_block-block.ensures))

pub cells_under-requires : goal.cells_under-requires
cells_under-requires c = (small (goal.at.cells_under-requires c).Else-not-block_holds).2

pub overflow_add-from : goal.overflow_add-from
overflow_add-from c = omega (arith, small (goal.at.overflow_add-from c).Else-not-block_holds, (holds (goal.at.overflow_add-from c).Else-not-block_holds).cells, cells (goal.at.overflow_add-from c).After-cells_under)

pub loop-i-preserved : goal.loop-i-preserved
loop-i-preserved c =
    let b = c.read_block-block.ensures in
    (omega arith, blocked_step c.loop-i.invariant.1 (holds (goal.at.loop-i-preserved c).Else-not-block_holds) _ (omega (arith, b)) (omega (arith, b, cells (goal.at.loop-i-preserved c).After-cells_under)))

pub returns : goal.returns
returns c = blocked_end c.loop-i.invariant.1 (omega (arith, c.loop-i.invariant.0, room _ _ c.args.parts.now.parted))
