-- The three tests of a pair, over the road distances to its second place.
use Rattle.std.specs.Prelude.{ℕ, ◌+◌, ◌*◌, ◌<◌, ◌≡◌, Bool, true, false, List, leb, eqb, get_or}
use Rattle.std.proofs.Math.Option.{Option, some, none}
use Rattle.paper.specs.Sizes.{ratio_unit}
use Rattle.paper.specs.Test.{both, due, or_else}
use Rattle.paper.specs.Map.{Map}
use Rattle.paper.specs.Sheet.{map_of}
use Rattle.paper.specs.Crow.{crow}
use Rattle.paper.specs.Stage.{stage_of}
use Rattle.paper.specs.Block.{block_of}
use Rattle.sheet.specs.declared.ground.Chart.{Chart}
use Rattle.quadtree.specs.Walks.{stage_by_chart}

-- a table of distances of which one column is known
abbrev pub by_column : List ℕ → ℕ → ℕ → ℕ
by_column column u v = get_or column u 0

-- the block b is one of u's
pub record Own (m : Map) (u b : ℕ) : Type 0 where
  pub under : b < m.blocks
  pub owner : m.owner b ≡ u

-- the stage that b names begins a shortest road from u
abbrev pub colour_true : Map → List ℕ → ℕ → ℕ → Bool
colour_true m column u b =
    let i : ℕ = stage_of m u (m.colour b) in
    eqb (m.furlongs i + get_or column (m.head i) 0) (get_or column u 0)

-- the ratios of b are true of the crow distance c and the road distance d
abbrev pub ratios_true : Map → ℕ → ℕ → ℕ → Bool
ratios_true m b c d = both (leb (m.low b * c) (ratio_unit * d)) (leb (ratio_unit * d) (m.high b * c))

-- the stage that b names, as it stands in a chart, begins a shortest road from u, whether or not some map has the chart
abbrev pub colour_by_chart : Chart → List ℕ → ℕ → ℕ → Bool
colour_by_chart c column u b =
    let i : ℕ = stage_by_chart c u b in
    eqb (get_or c.lengths.now i 0 + get_or column (get_or c.heads.now i 0) 0) (get_or column u 0)

-- what is due by u's block for v: 12 where there is none, then 13, then 14
abbrev pub due_by_chart : Chart → List ℕ → ℕ → ℕ → Option ℕ → ℕ
due_by_chart c column u v none = 12
due_by_chart c column u v (some b) =
    let g : Map = map_of c.ground.bytes.now in
    or_else (due (colour_by_chart c column u b) 13) (due (ratios_true g b (crow g u v) (get_or column u 0)) 14)

-- the lowest of them for the pair; 0 where none is due
unfoldable pub fault_by_chart : Chart → List ℕ → ℕ → ℕ → ℕ
unfolding block_of
fault_by_chart c column u v = elim (eqb u v) [ true ↦ 0 | false ↦ due_by_chart c column u v (block_of (map_of c.ground.bytes.now) u v) ]
