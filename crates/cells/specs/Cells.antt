-- What the contracts ask of a cell, and of a number whose root is sought; and the step by which a coordinate is spread.
use Rattle.std.specs.Prelude.{ℕ, ◌*◌, ◌%◌, ◌^◌, ◌<◌, ◌≡◌}
use Rattle.std.specs.Int.Bits.{bit_and, bit_or}
use Rattle.paper.specs.Sizes.{grid_side, crow_unit}
use Rattle.paper.specs.declared.Cell.{Cell}

-- x and y are 0 to 1,023
pub record OnGrid (c : Cell) : Type 0 where
  pub x : c.x < grid_side
  pub y : c.y < grid_side

-- in 32 bits: the bits of x, and those of x moved up, as far as they are kept
abbrev pub moved_apart : (by kept x : ℕ) → ℕ
moved_apart by kept x = bit_and (bit_or x (x * 2 ^ by % 2 ^ 32)) kept

-- r is that: a record, so that a proof can tell the numbers from the code
pub record MovedApart (by kept x r : ℕ) : Type 0 where
  pub is : r ≡ moved_apart by kept x

-- every crow distance is below it: it is at most the sum of the gaps, each below the grid's side
abbrev pub root_limit : ℕ
root_limit = crow_unit * (2 * grid_side)
