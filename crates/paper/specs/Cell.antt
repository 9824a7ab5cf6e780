-- The code of a cell.
use Rattle.std.specs.Prelude.{ℕ, zero, suc, ◌+◌, ◌*◌, ◌/◌, ◌%◌}
use Rattle.paper.specs.Sizes.{top_level}
use Rattle.paper.specs.Map.{Map}

-- bit i of the first f bits of x, at bit 2i
unfoldable pub spread_bits : ℕ → ℕ → ℕ
spread_bits zero x = 0
spread_bits (suc f) x = x % 2 + 4 * spread_bits f (x / 2)

-- the spread of a coordinate
unfoldable pub spread : ℕ → ℕ
unfolding spread_bits
spread x = spread_bits top_level x

-- the code of the cell (x, y): bit i of x at bit 2i, bit i of y at bit 2i + 1
unfoldable pub code_of : ℕ → ℕ → ℕ
unfolding spread
code_of x y = spread x + 2 * spread y

-- the code of v's cell
unfoldable pub cell : Map → ℕ → ℕ
unfolding code_of
cell m v = code_of (m.x v) (m.y v)
