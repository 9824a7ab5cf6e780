-- The map of a chart, as the functions over it speak of it.
use Rattle.paper.specs.Map.{Map}
use Rattle.sheet.specs.Ground.{Charted}
use Rattle.sheet.specs.declared.ground.Chart.{Chart}

-- the map m has the chart's ground and keeps the rules, and its stages stand in the chart's book
abbrev pub OnChart : Chart → Map → Type 0
OnChart c m = Charted c.ground.bytes.now c.first.now c.heads.now c.lengths.now m

-- some map has the chart: what walks along stages answers for a map, and without one a walk need not come to an end
pub record SomeMap (c : Chart) : Type 0 where
  pub map : Map
  pub on : OnChart c map
