-- `truth::pairs::block_fault` meets its contract, by the chart and on any map that has it: the colour, then the ratios.
use mathlib.Core.Bool.{true}
use mathlib.Core.Path.{◌≡◌, sym, ◌∙◌}
use native.Mathlib.Omega.{arith}
use lib.ListN.{get_or}
use Rattle.paper.specs.Map.{Map}
use Rattle.paper.specs.Sheet.{map_of}
use Rattle.paper.specs.Crow.{crow}
use Rattle.sheet.specs.Charts.{OnChart}
use Rattle.quadtree.proofs.Words.{standing}
use Rattle.truth.specs.Pairs.{colour_true, ratios_true, colour_by_chart}
use Rattle.truth.proofs.Pairing.{ratios_same, due_13, due_14, due_none}
use Rattle.truth.proofs.ByChart.{chart_13, chart_14, chart_clean}
use Rattle.truth.proofs.pairs.block_fault.Goals.{After-ratios_hold, Else-not-colour_holds}
use Rattle.truth.proofs.pairs.block_fault.Goals as goal

-- the colour is true
colour-by-chart : (c : Else-not-colour_holds) → let a = c.args in colour_by_chart a.chart.now a.column.now a.u a.b ≡ true
colour-by-chart c = sym c.colour_holds.ensures.by_chart ∙ c.if-not-colour_holds.false

colour-is : (c : Else-not-colour_holds) → let a = c.args in (m : Map) → OnChart a.chart.now m → colour_true m a.column.now a.u a.b ≡ true
colour-is c m C = sym (c.colour_holds.ensures.mapped m C) ∙ c.if-not-colour_holds.false

-- the test of the ratios
ratios-by-chart : (c : After-ratios_hold) → let a = c.args in let g = map_of a.chart.now.ground.bytes.now in ratios_true g a.b (crow g a.u a.v) (get_or a.column.now a.u 0) ≡ c.ratios_hold.result
ratios-by-chart c = rw c.from.ensures.0 at (sym c.ratios_hold.ensures)

ratios-are : (c : After-ratios_hold) → let a = c.args in (m : Map) → OnChart a.chart.now m → ratios_true m a.b (crow m a.u a.v) (get_or a.column.now a.u 0) ≡ c.ratios_hold.result
ratios-are c m C =
    let G = C.ground in
    let e = (standing c.args.chart.now.ground.keeps).places in
    ratios_same G _ _ _ _ (omega (arith, G.places, e, c.requires.0)) (omega (arith, G.places, e, c.requires.1)) (omega (arith, G.blocks, c.requires.3.under)) ∙ ratios-by-chart c

pub returns-then-not-colour_holds : goal.returns-then-not-colour_holds
returns-then-not-colour_holds c =
    let a = c.args in
    record {
      by_chart = chart_13 a.chart.now a.column.now a.u a.v a.b (sym c.colour_holds.ensures.by_chart ∙ c.if-not-colour_holds.true);
      mapped = λ m C. due_13 m a.column.now a.u a.v a.b (sym (c.colour_holds.ensures.mapped m C) ∙ c.if-not-colour_holds.true);
    }

pub returns-then-not-ratios_hold : goal.returns-then-not-ratios_hold
returns-then-not-ratios_hold c =
    let a = c.args in
    let at = goal.at.returns-then-not-ratios_hold c in
    record {
      by_chart = chart_14 a.chart.now a.column.now a.u a.v a.b (colour-by-chart at.Else-not-colour_holds) (ratios-by-chart at.After-ratios_hold ∙ c.if-not-ratios_hold.true);
      mapped = λ m C. due_14 m a.column.now a.u a.v a.b (colour-is at.Else-not-colour_holds m C) (ratios-are at.After-ratios_hold m C ∙ c.if-not-ratios_hold.true);
    }

pub returns : goal.returns
returns c =
    let a = c.args in
    let at = goal.at.returns c in
    record {
      by_chart = chart_clean a.chart.now a.column.now a.u a.v a.b (colour-by-chart at.Else-not-colour_holds) (ratios-by-chart at.After-ratios_hold ∙ c.if-not-ratios_hold.false);
      mapped = λ m C. due_none m a.column.now a.u a.v a.b (colour-is at.Else-not-colour_holds m C) (ratios-are at.After-ratios_hold m C ∙ c.if-not-ratios_hold.false);
    }
