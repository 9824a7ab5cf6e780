-- `truth::pairs::pair_fault` meets its contract: what is due, by the chart and on any map that has it, and the marks, on the ground.
use mathlib.Core.Option.{some}
use mathlib.Core.Path.{◌≡◌, sym, ◌∙◌}
use Prim.Native.Nat.{◌<◌}
use native.Mathlib.Omega.{arith}
use Rattle.paper.specs.Map.{Map}
use Rattle.paper.specs.Sheet.{map_of}
use Rattle.paper.specs.Block.{block_of}
use Rattle.paper.specs.Ground.{SameGround}
use Rattle.paper.proofs.Ground.{block_same}
use Rattle.quadtree.proofs.Words.{standing}
use Rattle.quadtree.proofs.Search.{cell_lt}
use Rattle.quadtree.proofs.Steps.{cover_some, cover_none}
use Rattle.truth.specs.Pairs.{Own}
use Rattle.truth.proofs.Pairing.{own_block, fault_home, fault_none, fault_some, mark_home, mark_none, mark_some}
use Rattle.truth.proofs.ByChart.{chart_home, chart_none, chart_some}
use Rattle.truth.proofs.pairs.pair_fault.Goals.{In-Some, Start}
use Rattle.truth.proofs.pairs.pair_fault.Goals as goal

-- v is a place of any map that has the ground
inside : (c : Start) (m : Map) → SameGround m (map_of c.args.chart.now.ground.bytes.now) → c.args.v < m.places
inside c m S = omega (arith, c.requires.1, (standing c.args.chart.now.ground.keeps).places, S.places)

-- the block that covers v
block : (c : In-Some) → let a = c.args in block_of (map_of a.chart.now.ground.bytes.now) a.u a.v ≡ some c.in-Some.b
block c = cover_some _ _ (sym c.in-Some.is ∙ c.block_of.ensures.block _ (sym c.requires.4))

own : (c : In-Some) → let a = c.args in Own (map_of a.chart.now.ground.bytes.now) a.u c.in-Some.b
own c = own_block _ _ _ _ (block c)

pub returns-then-u-v : goal.returns-then-u-v
returns-then-u-v c =
    let a = c.args in
    record { by_chart = chart_home a.chart.now a.column.now a.u a.v c.if-u-v.true; value = λ m C. fault_home _ _ _ _ c.if-u-v.true; marks_after = mark_home _ _ _ _ c.if-u-v.true }

pub block_of-requires : goal.block_of-requires
block_of-requires c = (c.requires.0, cell_lt _ _ _ c.requires.4)

pub bounds-marks-b : goal.bounds-marks-b
bounds-marks-b c = omega (arith, (own (goal.at.bounds-marks-b c).In-Some).under, (standing c.args.chart.now.ground.keeps).blocks, c.requires.3)

pub block_fault-requires : goal.block_fault-requires
block_fault-requires c = (c.requires.0, c.requires.1, c.requires.2, own (goal.at.block_fault-requires c).In-Some)

pub returns-in-Some : goal.returns-in-Some
returns-in-Some c =
    let a = c.args in
    let at = goal.at.returns-in-Some c in
    record {
      by_chart = chart_some a.chart.now a.column.now a.u a.v c.if-u-v.false _ _ (block at.In-Some) c.block_fault.ensures.by_chart;
      value = λ m C. fault_some _ _ _ _ _ _ c.if-u-v.false (block_same C.ground _ _ (inside at.Start m C.ground) ∙ block at.In-Some) (c.block_fault.ensures.mapped m C);
      marks_after = mark_some _ _ _ _ _ c.if-u-v.false (block at.In-Some);
    }

pub returns-in-None : goal.returns-in-None
returns-in-None c =
    let a = c.args in
    let none = cover_none _ (sym c.in-None.is ∙ c.block_of.ensures.block _ (sym c.requires.4)) in
    record {
      by_chart = chart_none a.chart.now a.column.now a.u a.v c.if-u-v.false none;
      value = λ m C. fault_none _ _ _ _ c.if-u-v.false (block_same C.ground _ _ (inside (goal.at.returns-in-None c).Start m C.ground) ∙ none);
      marks_after = mark_none _ _ _ _ c.if-u-v.false none;
    }
