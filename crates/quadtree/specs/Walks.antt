-- Intervals and trails as the code hands them on.
use Rattle.std.specs.Prelude.{ℕ, ◌+◌, ◌-◌, ◌*◌, ◌/◌, min, max, true, false, ltb, get_or}
use Rattle.std.proofs.Math.Option.{Option, some, none}
use Rattle.paper.specs.Sizes.{ratio_unit}
use Rattle.paper.specs.Served.{Served, refused, and_then}
use Rattle.paper.specs.Map.{Map}
use Rattle.paper.specs.Sheet.{map_of}
use Rattle.paper.specs.Block.{block_of}
use Rattle.paper.specs.Trail.{Ends, Trail, between, tested}
use Rattle.paper.specs.declared.Trail as code
use Rattle.sheet.specs.declared.ground.Chart.{Chart}
use Rattle.quadtree.specs.declared.interval.Ends as interval

-- the low end is rounded up, the high end down
abbrev pub low_end : ℕ → ℕ → ℕ
low_end ratio c = (ratio * c + (ratio_unit - 1)) / ratio_unit

abbrev pub high_end : ℕ → ℕ → ℕ
high_end ratio c = ratio * c / ratio_unit

-- the ends that the block b gives over the crow distance c
abbrev pub ends_of : Map → ℕ → ℕ → Ends
ends_of m b c = record { low = low_end (m.low b) c; high = high_end (m.high b) c }

-- ends and a trail of the code
abbrev pub ends_as : interval.Ends → Ends
ends_as e = record { low = e.low.0; high = e.high.0 }

abbrev pub trail_of : code.Trail → Trail
trail_of t = record { via = t.via; walked = t.walked.0; low = t.low.0; high = t.high.0; stages = t.stages }

-- the trail t after a stage of the length to the place via, whose ends are e
abbrev pub ahead : Trail → ℕ → ℕ → Ends → Trail
ahead t via length e =
    let w : ℕ = t.walked + length in
    record { via = via; walked = w; low = max t.low (w + e.low); high = min t.high (w + e.high); stages = t.stages + 1 }

-- the same towards v, by the ends of via
unfoldable pub walked_to : Map → ℕ → Trail → ℕ → ℕ → Served Trail
unfolding between
walked_to m v t via length = and_then (between m via v) (λ e. tested (ahead t via length e))

-- the stage of the place u that the block b names by its colour, by where the chart has the first that leaves u
abbrev pub stage_by_chart : Chart → ℕ → ℕ → ℕ
stage_by_chart c u b = get_or c.first.now u 0 + (map_of c.ground.bytes.now).colour b

-- the trail after the stage that the block that covers v names, as it stands in the chart; 17 where none covers v
abbrev pub onward_by_chart : Chart → ℕ → Trail → Option ℕ → Served Trail
onward_by_chart c v t none = refused 17
onward_by_chart c v t (some b) =
    let i : ℕ = stage_by_chart c t.via b in
    walked_to (map_of c.ground.bytes.now) v t (get_or c.heads.now i 0) (get_or c.lengths.now i 0)

-- one refinement of a trail towards v by what stands in the chart, whether or not some map has it
unfoldable pub refine_by_chart : Chart → ℕ → Trail → Served Trail
unfolding walked_to block_of
refine_by_chart c v t =
    let g : Map = map_of c.ground.bytes.now in
    elim (ltb (t.stages + 1) g.places) [ false ↦ refused 16 | true ↦ onward_by_chart c v t (block_of g t.via v) ]
