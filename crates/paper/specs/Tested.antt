-- The walk's tests in the paper's order: a first interval for 17, 18; a refinement for 16, 17 at the old via, 17 at the new, 18.
use Rattle.std.specs.Prelude.{ℕ, ◌+◌, Bool, true, false, ltb, eqb}
use Rattle.std.proofs.Math.Option.{Option, some, none}
use Rattle.paper.specs.Served.{Served, refused, served}
use Rattle.paper.specs.Test.{either, due, or_else}
use Rattle.paper.specs.Map.{Map}
use Rattle.paper.specs.Stage.{stage_of}
use Rattle.paper.specs.Block.{block_of}
use Rattle.paper.specs.Trail.{Ends, between, Trail, ordered, fresh, onward}

-- the number that is given, 0 where what was asked for is served
abbrev pub refusal_of : Served Trail → ℕ
refusal_of (refused n) = n
refusal_of (served a) = 0

abbrev pub found : Option ℕ → Bool
found none = false
found (some b) = true

-- a block of u covers v, or none is consulted
unfoldable pub covered : Map → ℕ → ℕ → Bool
unfolding block_of
covered m u v = either (eqb u v) (found (block_of m u v))

-- the ends between u and v, where there are some
abbrev pub ends_in : Served Ends → Ends
ends_in (refused n) = record { low = 0; high = 0 }
ends_in (served e) = e

-- the stage that u's block for v names
abbrev pub stage_by : Map → ℕ → Option ℕ → ℕ
stage_by m u none = 0
stage_by m u (some b) = stage_of m u (m.colour b)

-- the first of 17 and 18 that is due for the first interval from u to v
unfoldable pub start_due : Map → ℕ → ℕ → ℕ
unfolding covered between
start_due m u v =
    let t : Trail = fresh u (ends_in (between m u v)) in
    or_else (due (covered m u v) 17) (due (ordered t) 18)

-- the first of 16, 17, 17 and 18 that is due for a refinement of t towards v
unfoldable pub refine_due : Map → ℕ → Trail → ℕ
unfolding block_of stage_of covered between
refine_due m v t =
    let i : ℕ = stage_by m t.via (block_of m t.via v) in
    let t' : Trail = onward m i t (ends_in (between m (m.head i) v)) in
    or_else (due (ltb (t.stages + 1) m.places) 16)
    (or_else (due (found (block_of m t.via v)) 17)
    (or_else (due (covered m (m.head i) v) 17) (due (ordered t') 18)))
