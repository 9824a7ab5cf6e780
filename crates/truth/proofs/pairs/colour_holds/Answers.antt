-- `truth::pairs::colour_holds` meets its contract: the stage that the block names stands in the book, and leads to a place of the column.
use Rattle.sheet.specs.Charts.{OnChart}
use Rattle.paper.specs.Map.{Map}
use Rattle.quadtree.proofs.Charts.{Led, led}
use Rattle.truth.proofs.Pairing.{colour_decides}
use Rattle.truth.proofs.ByChart.{chart_colour}
use Rattle.truth.proofs.pairs.colour_holds.Goals.{After-stage_of-i}
use Rattle.truth.proofs.pairs.colour_holds.Goals as goal

-- the stage that the block names, on any map that has the chart
stage : (c : After-stage_of-i) → let a = c.args in (m : Map) → OnChart a.chart.now m → Led m a.chart.now.heads.now a.chart.now.lengths.now a.u a.b c.stage_of-i.result
stage c m C = let own = c.requires.2 in led C _ _ _ own.under own.owner c.stage_of-i.ensures

pub returns : goal.returns
returns c =
    let a = c.args in
    record {
      by_chart = chart_colour a.chart.now a.column.now _ _ _ _ _ _ c.stage_of-i.ensures c.from.ensures.0 c.from-beyond.ensures.0 c.from-2.ensures.0;
      mapped = λ m C. colour_decides a.chart.now.heads.now a.chart.now.lengths.now a.column.now _ _ _ _ _ _ (stage (goal.at.returns c).After-stage_of-i m C) c.from.ensures.0 c.from-beyond.ensures.0 c.from-2.ensures.0;
    }
