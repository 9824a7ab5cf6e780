-- The stages that leave a place, and their colours.
use Rattle.std.specs.Prelude.{ℕ, zero, suc, ◌+◌, true, false, ltb, eqb}
use Rattle.paper.specs.Sum.{sum, one}
use Rattle.paper.specs.Map.{Map}

-- how many stages leave u
unfoldable pub leaving : Map → ℕ → ℕ
unfolding sum
leaving m u = sum m.stages (λ i. one (eqb (m.tail i) u))

-- the colour of stage i: how many before it in sheet order leave the same place, so that the stages that leave a place have colours 0, 1, 2 and so on
unfoldable pub colour_of : Map → ℕ → ℕ
unfolding sum
colour_of m i = sum i (λ j. one (eqb (m.tail j) (m.tail i)))

-- where the stages that leave u begin, among the first n: after the last that leaves a lower place
unfoldable pub stages_below : Map → ℕ → ℕ → ℕ
stages_below m u zero = zero
stages_below m u (suc i) = elim (ltb (m.tail i) u) [ true ↦ suc i | false ↦ stages_below m u i ]

-- the stage that leaves u and has the colour c
unfoldable pub stage_of : Map → ℕ → ℕ → ℕ
unfolding stages_below
stage_of m u c = stages_below m u m.stages + c
