-- `quadtree::walk::refine` meets its contract: the stage that the block names is one of the book's.
use mathlib.Core.Path.{◌≡◌, sym, ap, ◌∙◌}
use Prim.Native.Nat.{ℕ, ◌<◌}
use native.Mathlib.Omega.{arith}
use Rattle.std.specs.Prelude.{Option}
use Rattle.paper.specs.Map.{Map}
use Rattle.paper.specs.Sheet.{map_of}
use Rattle.paper.specs.Block.{block_of}
use Rattle.paper.specs.Ground.{SameGround}
use Rattle.paper.proofs.Block.{block_of_lem}
use Rattle.paper.proofs.Ground.{block_same}
use Rattle.sheet.specs.Charts.{OnChart}
use Rattle.quadtree.specs.Blocks.{cover_of}
use Rattle.quadtree.proofs.Words.{standing}
use Rattle.quadtree.proofs.Charts.{Led, led, Reads, reads}
use Rattle.quadtree.specs.Walks.{walked_to}
use Rattle.quadtree.proofs.Steps.{cover_some, walked_same, refine_last, refine_none, refine_to, chart_last, chart_none, chart_to}
use Rattle.quadtree.proofs.Search.{cell_lt}
use Rattle.quadtree.proofs.walk.refine.Goals.{After-block_of, After-stage_of-i, In-Some}
use Rattle.quadtree.proofs.walk.refine.Goals as goal

-- the place and the trail are within the places of a map that has the ground
module _ (c : After-block_of) (m : Map) (S : SameGround m (map_of c.args.chart.now.ground.bytes.now)) where
  within : (c.args.v < m.places) × (c.args.t.via < m.places)
  within = omega (arith, c.requires, (standing c.args.chart.now.ground.keeps).places, S.places)

  -- what the search found is what the definition finds
  found : (r : Option ℕ) → c.block_of.result ≡ r → r ≡ cover_of (block_of m c.args.t.via c.args.v)
  found r e = sym e ∙ c.block_of.ensures.block _ (sym c.code-code.ensures) ∙ ap cover_of (sym (block_same S _ _ within.0))

  more : m.places ≡ c.args.chart.now.ground.counts.places
  more = S.places ∙ sym (standing c.args.chart.now.ground.keeps).places

-- what the reads of the stage that it names need, and the stage on any map that has the ground and the book
read : (c : After-stage_of-i) → Reads (map_of c.args.chart.now.ground.bytes.now).places c.args.chart.now.heads.now c.args.chart.now.lengths.now c.stage_of-i.result
read c = let B = block_of_lem _ _ _ _ (cover_some _ _ (sym c.in-Some.is ∙ c.block_of.ensures.block _ (sym c.code-code.ensures))) in reads c.args.chart.now.stocked _ _ _ B.under B.owner c.stage_of-i.ensures

stage : (c : After-stage_of-i) (m : Map) → OnChart c.args.chart.now m → Led m c.args.chart.now.heads.now c.args.chart.now.lengths.now c.args.t.via c.in-Some.b c.stage_of-i.result
stage c m C = let B = block_of_lem _ _ _ _ (cover_some _ _ (sym c.in-Some.is ∙ c.block_of.ensures.block _ (sym c.code-code.ensures))) in led C _ _ _ B.under B.owner c.stage_of-i.ensures

pub returns-then-ground-t : goal.returns-then-ground-t
returns-then-ground-t c =
    let room = (standing c.args.chart.now.ground.keeps).places in
    record {
      by_chart = chart_last c.args.chart.now _ _ (omega (arith, c.if-ground-t.true, room));
      mapped = λ m C. refine_last _ _ _ (omega (arith, c.if-ground-t.true, room, C.ground.places));
    }

pub block_of-requires : goal.block_of-requires
block_of-requires c = (c.requires.1.via, cell_lt _ _ _ c.code-code.ensures)

pub offset_bounds-chart-i : goal.offset_bounds-chart-i
offset_bounds-chart-i c = omega (arith, read (goal.at.offset_bounds-chart-i c).After-stage_of-i)

pub bounds-chart-i : goal.bounds-chart-i
bounds-chart-i c = omega (arith, read (goal.at.bounds-chart-i c).After-stage_of-i)

pub offset_bounds-chart-i-in-Some : goal.offset_bounds-chart-i-in-Some
offset_bounds-chart-i-in-Some c = omega (arith, read (goal.at.offset_bounds-chart-i-in-Some c).After-stage_of-i)

pub bounds-chart-i-in-Some : goal.bounds-chart-i-in-Some
bounds-chart-i-in-Some c = omega (arith, read (goal.at.bounds-chart-i-in-Some c).After-stage_of-i)

pub walked_to-requires : goal.walked_to-requires
walked_to-requires c =
    let R = read (goal.at.walked_to-requires c).After-stage_of-i in
    (omega (arith, R.placed, (standing c.args.chart.now.ground.keeps).places), c.requires.0, c.code-code.ensures, c.requires.1, omega (arith, c.if-ground-t.false), omega (arith, R.short, c.into.ensures))

pub returns-in-Some : goal.returns-in-Some
returns-in-Some c =
    let at = goal.at.returns-in-Some c in
    record {
      by_chart = chart_to c.args.chart.now _ _ _ _ _ (omega (arith, c.if-ground-t.false, (standing c.args.chart.now.ground.keeps).places))
          (sym c.in-Some.is ∙ c.block_of.ensures.block _ (sym c.code-code.ensures)) c.stage_of-i.ensures (c.walked_to.ensures ∙ ap (walked_to _ _ _ _) c.into.ensures.0);
      mapped = λ m C.
          let L = stage at.After-stage_of-i m C in
          refine_to _ _ _ _ _ _ _ _ (omega (arith, more at.After-block_of m C.ground, c.if-ground-t.false)) (found at.After-block_of m C.ground _ c.in-Some.is) L.is L.head
          (c.into.ensures.0 ∙ L.furlongs) (c.walked_to.ensures ∙ sym (walked_same C.ground _ _ _ _ (omega (arith, L)) (within at.After-block_of m C.ground).0));
    }

pub returns-in-None : goal.returns-in-None
returns-in-None c =
    let at = goal.at.returns-in-None c in
    record {
      by_chart = chart_none c.args.chart.now _ _ (omega (arith, c.if-ground-t.false, (standing c.args.chart.now.ground.keeps).places)) (sym c.in-None.is ∙ c.block_of.ensures.block _ (sym c.code-code.ensures));
      mapped = λ m C. refine_none _ _ _ (omega (arith, more at.After-block_of m C.ground, c.if-ground-t.false)) (found at.After-block_of m C.ground _ c.in-None.is);
    }
