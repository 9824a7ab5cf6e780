-- The interval between two places, and one refinement of it.
use Rattle.std.specs.Prelude.{ℕ, ◌+◌, ◌-◌, ◌*◌, ◌/◌, min, max, Bool, true, false, leb, ltb, eqb}
use Rattle.std.proofs.Math.Option.{Option, some, none}
use Rattle.paper.specs.Served.{Served, refused, served, and_then}
use Rattle.paper.specs.Sizes.{ratio_unit}
use Rattle.paper.specs.Map.{Map}
use Rattle.paper.specs.Crow.{crow}
use Rattle.paper.specs.Stage.{stage_of}
use Rattle.paper.specs.Block.{block_of}

pub record Ends : Type 0 where
  pub low : ℕ
  pub high : ℕ

abbrev pub ends_by : Map → ℕ → ℕ → Option ℕ → Served Ends
ends_by m u v none = refused 17
ends_by m u v (some b) = served (record { low = (m.low b * crow m u v + (ratio_unit - 1)) / ratio_unit; high = m.high b * crow m u v / ratio_unit })

-- the ends that u's block gives for v, not yet tested; 17 where no block covers v
unfoldable pub between : Map → ℕ → ℕ → Served Ends
unfolding block_of crow
between m u v = elim (eqb u v) [ true ↦ served (record { low = 0; high = 0 }) | false ↦ ends_by m u v (block_of m u v) ]

-- how far a question has walked towards a place: where it stands, the length and the stages behind it, and the ends
pub record Trail : Type 0 where
  pub via : ℕ
  pub walked : ℕ
  pub low : ℕ
  pub high : ℕ
  pub stages : ℕ

abbrev pub ordered : Trail → Bool
ordered t = leb t.low t.high

-- 18 where the interval is empty
abbrev pub tested : Trail → Served Trail
tested t = elim (ordered t) [ false ↦ refused 18 | true ↦ served t ]

abbrev pub fresh : ℕ → Ends → Trail
fresh u e = record { via = u; walked = 0; low = e.low; high = e.high; stages = 0 }

-- the trail from u to v before any refinement
unfoldable pub start : Map → ℕ → ℕ → Served Trail
unfolding between
start m u v = and_then (between m u v) (λ e. tested (fresh u e))

-- the trail after the stage i, with the ends e of the place it leads to
abbrev pub onward : Map → ℕ → Trail → Ends → Trail
onward m i t e =
    let w : ℕ = t.walked + m.furlongs i in
    record { via = m.head i; walked = w; low = max t.low (w + e.low); high = min t.high (w + e.high); stages = t.stages + 1 }

-- the stage that the block that covers v names
abbrev pub onward_by : Map → ℕ → Trail → Option ℕ → Served Trail
onward_by m v t none = refused 17
onward_by m v t (some b) =
    let i : ℕ = stage_of m t.via (m.colour b) in
    and_then (between m (m.head i) v) (λ e. tested (onward m i t e))

-- one refinement of a trail towards v
unfoldable pub refine : Map → ℕ → Trail → Served Trail
unfolding between block_of stage_of
refine m v t = elim (ltb (t.stages + 1) m.places) [ false ↦ refused 16 | true ↦ onward_by m v t (block_of m t.via v) ]
