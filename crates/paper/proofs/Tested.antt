-- The walk refuses by the first of its tests that is due, in the paper's order.
use Prim.Native.Nat.{ℕ, ◌+◌}
use mathlib.Core.Path.{◌≡◌, refl}
use mathlib.Core.Bool.{Bool, true, false}
use mathlib.Core.Option.{Option, some, none}
use lib.Dec.{ltb, eqb}
use Rattle.paper.specs.Served.{Served, refused, served, and_then}
use Rattle.paper.specs.Test.{either, due, or_else}
use Rattle.paper.specs.Map.{Map}
use Rattle.paper.specs.Stage.{stage_of}
use Rattle.paper.specs.Block.{block_of}
use Rattle.paper.specs.Trail.{Ends, ends_by, between, Trail, ordered, tested, fresh, start, onward, onward_by, refine}
use Rattle.paper.specs.Tested.{refusal_of, found, covered, ends_in, stage_by, start_due, refine_due}

-- the last test: 18
tested-due : (t : Trail) → refusal_of (tested t) ≡ due (ordered t) 18
tested-due t = go (ordered t)
  where
    go : (o : Bool) → refusal_of (elim o as (λ _. Served Trail) [ false ↦ refused 18 | true ↦ served t ]) ≡ due o 18
    go false = refl
    go true = refl

-- 17 where no block covers the place sought, and else what is due for the trail that the ends make
between-due : (m : Map) (u v : ℕ) (f : Ends → Trail)
    → refusal_of (and_then (between m u v) (λ e. tested (f e)))
    ≡ or_else (due (covered m u v) 17) (due (ordered (f (ends_in (between m u v)))) 18)
unfolding between covered
between-due m u v f = go (eqb u v) (block_of m u v)
  where
    by : (b : Bool) → Option ℕ → Served Ends
    by b r = elim b as (λ _. Served Ends) [ true ↦ served (record { low = 0; high = 0 }) | false ↦ ends_by m u v r ]

    go : (b : Bool) (r : Option ℕ) → refusal_of (and_then (by b r) (λ e. tested (f e)))
        ≡ or_else (due (either b (found r)) 17) (due (ordered (f (ends_in (by b r)))) 18)
    go true r = tested-due (f (record { low = 0; high = 0 }))
    go false none = refl
    go false (some b) = tested-due (f (ends_in (ends_by m u v (some b))))

-- a first interval is tested for 17, 18
pub start_tests : (m : Map) (u v : ℕ) → refusal_of (start m u v) ≡ start_due m u v
unfolding start start_due
start_tests m u v = between-due m u v (fresh u)

-- a refinement is tested for 16, 17 at the old via, 17 at the new, 18
pub refine_tests : (m : Map) (v : ℕ) (t : Trail) → refusal_of (refine m v t) ≡ refine_due m v t
unfolding refine refine_due
refine_tests m v t = go (ltb (t.stages + 1) m.places) (block_of m t.via v)
  where
    next : Option ℕ → Trail
    next r = let i : ℕ = stage_by m t.via r in onward m i t (ends_in (between m (m.head i) v))

    go : (b : Bool) (r : Option ℕ) → refusal_of (elim b as (λ _. Served Trail) [ false ↦ refused 16 | true ↦ onward_by m v t r ])
        ≡ or_else (due b 16) (or_else (due (found r) 17) (or_else (due (covered m (m.head (stage_by m t.via r)) v) 17) (due (ordered (next r)) 18)))
    go false r = refl
    go true none = refl
    go true (some b) = let i : ℕ = stage_of m t.via (m.colour b) in between-due m (m.head i) v (onward m i t)
