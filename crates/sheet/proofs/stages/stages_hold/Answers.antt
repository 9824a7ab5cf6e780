-- `sheet::stages::stages_hold` meets its contract. The invariant is `Staged`: the first i stages hold, ascend and are counted.
use mathlib.Core.Path.{◌≡◌, refl, sym, ◌∙◌}
use Prim.Native.Nat.{◌<◌, ◌≤◌}
use native.Mathlib.Omega.{arith}
use lib.ListN.{length, length-set}
use Rattle.paper.specs.Sizes.{most_places}
use Rattle.paper.specs.Layout.{stage_holds}
use Rattle.paper.specs.Sheet.{map_of}
use Rattle.sheet.proofs.Staged.{Held, held, stage_fails, staged_start, staged-step, staged_end, out_of_order, ninth}
use Rattle.sheet.proofs.Room.{room}
use Rattle.sheet.proofs.stages.stages_hold.Goals.{After-stage_holds, Else-not-stage_holds}
use Rattle.sheet.proofs.stages.stages_hold.Goals as goal

-- the test of the stage is that of the paper
tested : (c : After-stage_holds) → c.stage_holds.result ≡ stage_holds (map_of c.args.parts.now.bytes.now) c.loop-i.i
tested c = c.stage_holds.ensures _ _ (sym (room _ _ c.args.parts.now.parted).places) c.read_stage-stage.ensures

-- in the branch where it holds, and what the sums and the reads need there
holds : (c : Else-not-stage_holds) → Held (map_of c.args.parts.now.bytes.now) c.loop-i.i
holds c = let R = room _ _ c.args.parts.now.parted in held _ _ (omega (arith, R)) (omega (arith, R)) (sym ((c.stage_holds.ensures _ _ (sym (room _ _ c.args.parts.now.parted).places) c.read_stage-stage.ensures)) ∙ c.if-not-stage_holds.false)

small : (c : Else-not-stage_holds) → let t = c.read_stage-stage.result in let n = c.args.parts.now.counts.places in (t.tail < n) × (t.head < n) × (n ≤ most_places) × (n ≤ length c.loop-i.leaving)
small c = omega (arith, holds c, c.read_stage-stage.ensures, c.loop-i.invariant.2.long, (room _ _ c.args.parts.now.parted))

pub stages_at-at-requires : goal.stages_at-at-requires
stages_at-at-requires c = (room _ _ c.args.parts.now.parted).within

pub loop-i-init : goal.loop-i-init
loop-i-init c = (omega arith, refl, staged_start _ _ _ c.args.parts.now.parted.places c.requires)

pub read_stage-stage-requires : goal.read_stage-stage-requires
read_stage-stage-requires c = let R = room _ _ c.args.parts.now.parted in (omega (arith, R), omega (arith, R))

pub returns-then-not-stage_holds-clause-value : goal.returns-then-not-stage_holds-clause-value
returns-then-not-stage_holds-clause-value c = stage_fails _ _ (omega (arith, room _ _ c.args.parts.now.parted)) (sym (tested (goal.at.returns-then-not-stage_holds-clause-value c).After-stage_holds) ∙ c.if-not-stage_holds.true)

pub overflow_mul-key : goal.overflow_mul-key
overflow_mul-key c = omega (arith, small (goal.at.overflow_mul-key c).Else-not-stage_holds)

pub overflow_add-key : goal.overflow_add-key
overflow_add-key c = omega (arith, small (goal.at.overflow_add-key c).Else-not-stage_holds)

pub returns-then-key-from-clause-value : goal.returns-then-key-from-clause-value
returns-then-key-from-clause-value c = out_of_order c.loop-i.invariant.2 (holds (goal.at.returns-then-key-from-clause-value c).Else-not-stage_holds) (omega (arith, c.read_stage-stage.ensures))

pub bounds-leaving-tail : goal.bounds-leaving-tail
bounds-leaving-tail c = omega (arith, small (goal.at.bounds-leaving-tail c).Else-not-stage_holds)

pub returns-then-before-ge-MOST_LEAVING-clause-value : goal.returns-then-before-ge-MOST_LEAVING-clause-value
returns-then-before-ge-MOST_LEAVING-clause-value c = ninth c.loop-i.invariant.2 (holds (goal.at.returns-then-before-ge-MOST_LEAVING-clause-value c).Else-not-stage_holds) _ (sym c.read_stage-stage.ensures.tail) (omega (arith, c.if-before-ge-MOST_LEAVING.true))

pub bounds-leaving-tail-in-loop-i : goal.bounds-leaving-tail-in-loop-i
bounds-leaving-tail-in-loop-i c = omega (arith, small (goal.at.bounds-leaving-tail-in-loop-i c).Else-not-stage_holds)

pub overflow_add-from : goal.overflow_add-from
overflow_add-from c = omega (arith, small (goal.at.overflow_add-from c).Else-not-stage_holds)

pub loop-i-preserved : goal.loop-i-preserved
loop-i-preserved c =
    let l = c.loop-i in
    let t = c.read_stage-stage.ensures in
    (omega arith, simp length-set l.invariant.1, staged-step l.invariant.2 (holds (goal.at.loop-i-preserved c).Else-not-stage_holds) _ (sym t.tail) _ (omega (arith, t)) (omega (arith, c.if-before-ge-MOST_LEAVING.false)) (omega (arith, t)))

pub returns-clause-value : goal.returns-clause-value
returns-clause-value c = (staged_end c.loop-i.invariant.2 (omega (arith, c.loop-i.invariant.0, room _ _ c.args.parts.now.parted))).0

pub returns-clause-leaving : goal.returns-clause-leaving
returns-clause-leaving c y = (staged_end c.loop-i.invariant.2 (omega (arith, c.loop-i.invariant.0, room _ _ c.args.parts.now.parted))).1
