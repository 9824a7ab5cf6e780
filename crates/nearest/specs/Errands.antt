-- An errand, as the functions of the walk speak of it.
use Rattle.std.specs.Prelude.{ℕ}
use Rattle.paper.specs.Map.{Map}
use Rattle.paper.specs.Sheet.{map_of}
use Rattle.paper.specs.Quest.{Quest}
use Rattle.nearest.specs.Question.{quest_on}
use Rattle.nearest.specs.declared.errand.Errand.{Errand}

-- how many offices and places it has
abbrev pub offices : Errand → ℕ
offices e = e.chart.ground.counts.offices

abbrev pub places : Errand → ℕ
places e = e.chart.ground.counts.places

-- the map of its ground, and its quest
abbrev pub ground_of : Errand → Map
ground_of e = map_of e.chart.ground.bytes.now

abbrev pub asked : Errand → Quest
asked e = quest_on e.list.now e.quest
