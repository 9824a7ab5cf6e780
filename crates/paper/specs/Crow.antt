-- The crow distance.
use Rattle.std.specs.Prelude.{ℕ, zero, suc, ◌+◌, ◌*◌, ◌-◌, ◌≤◌, ◌<◌, true, false, leb}
use Rattle.paper.specs.Sizes.{grid_side, crow_unit, crow_scale}
use Rattle.paper.specs.Map.{Map}

-- how far apart two coordinates are
unfoldable pub gap : ℕ → ℕ → ℕ
gap a b = (a - b) + (b - a)

-- r is the largest whole number whose square is at most n
pub record Root (n r : ℕ) : Type 0 where
  pub square : r * r ≤ n
  pub next : n < suc r * suc r

-- the largest whole number from r down whose square is at most n
unfoldable pub root_from : ℕ → ℕ → ℕ
root_from zero n = zero
root_from (suc r) n = elim (leb (suc r * suc r) n) [ true ↦ suc r | false ↦ root_from r n ]

-- over the gaps dx and dy: the largest whole number whose square is at most crow_scale × (dx² + dy²); it is at most crow_unit × (dx + dy)
unfoldable pub crow_across : ℕ → ℕ → ℕ
unfolding root_from
crow_across dx dy = root_from (crow_unit * (dx + dy)) (crow_scale * (dx * dx + dy * dy))

-- from corner to corner of the grid: the most that a crow distance can be
abbrev pub crow_most : ℕ
crow_most = crow_across (grid_side - 1) (grid_side - 1)

-- the crow distance between the places u and v
unfoldable pub crow : Map → ℕ → ℕ → ℕ
unfolding gap crow_across
crow m u v = crow_across (gap (m.x u) (m.x v)) (gap (m.y u) (m.y v))
