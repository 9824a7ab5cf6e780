-- What callers need of codes and crow distances.
use Prim.Native.Nat.{ℕ, zero, suc, ◌+◌, ◌*◌, ◌/◌, ◌-◌, ◌^◌, ◌≤◌, ◌<◌}
use native.Mathlib.Omega.{arith}
use native.Mathlib.Nat.{pow-suc, mul-le-mul}
use mathlib.Core.Path.{◌≡◌}
use Rattle.paper.specs.Sizes.{grid_side, top_level, crow_scale}
use Rattle.paper.specs.Map.{Map}
use Rattle.paper.specs.Cell.{spread_bits, spread, code_of, cell}
use Rattle.paper.specs.Crow.{Root, gap, crow_across, crow}
use Rattle.paper.specs.declared.Cell.{Cell}
use Rattle.paper.proofs.Crow.{root_one, crow_law, gap_le, crow_most_lem, crow_longest}
use Rattle.cells.specs.Cells.{OnGrid}

-- f bits in every other place are at most 0101..01
bits_lt : (f x : ℕ) → 3 * spread_bits f x < 4 ^ f
unfolding spread_bits
bits_lt zero x = omega arith
bits_lt (suc f) x = omega (arith, bits_lt f (x / 2), pow-suc 4 f)

pub spread_lt : (x : ℕ) → 3 * spread x < 4 ^ top_level
unfolding spread
spread_lt x = bits_lt top_level x

pub code_is : (x y a b : ℕ) → a ≡ spread x → b ≡ spread y → a + 2 * b ≡ code_of x y
unfolding code_of
code_is x y a b p q = rw (p, q)

-- every code is one of the grid's
pub code_lt : (x y : ℕ) → code_of x y < 4 ^ top_level
unfolding code_of
code_lt x y = omega (arith, spread_lt x, spread_lt y)

-- a word holds the crow distance of two cells
pub crow_fits : (a b : Cell) → OnGrid a → OnGrid b → crow_across (gap a.x b.x) (gap a.y b.y) < 2 ^ 32
crow_fits a b A B = omega (arith, crow_longest, crow_most_lem _ _ (gap_le a.x b.x (grid_side - 1) A.x B.x) (gap_le a.y b.y (grid_side - 1) A.y B.y))

-- a gap on the grid, squared
pub gap_square : (a b d : ℕ) → a < grid_side → b < grid_side → d ≡ gap a b → d * d ≤ (grid_side - 1) * (grid_side - 1)
gap_square a b d p q e = let l : d ≤ grid_side - 1 = omega (arith, gap_le a b (grid_side - 1) p q) in mul-le-mul l l

-- the root over the gaps is the crow distance
pub crow_is : (dx dy gx gy r : ℕ) → dx ≡ gx → dy ≡ gy → Root (crow_scale * (dx * dx + dy * dy)) r → r ≡ crow_across gx gy
crow_is dx dy gx gy r p q R = root_one (rw (p, q) at R) (crow_law gx gy)

-- the cell of a place has the place's code, and the crow distance of two places' cells is the places'
pub code_place : (m : Map) (v : ℕ) (c : Cell) → c.x ≡ m.x v → c.y ≡ m.y v → code_of c.x c.y ≡ cell m v
unfolding cell
code_place m v c p q = rw (p, q)

pub crow_places : (m : Map) (u v : ℕ) (a b : Cell) → a.x ≡ m.x u → a.y ≡ m.y u → b.x ≡ m.x v → b.y ≡ m.y v
    → crow_across (gap a.x b.x) (gap a.y b.y) ≡ crow m u v
unfolding crow
crow_places m u v a b p q r s = rw (p, q, r, s)
