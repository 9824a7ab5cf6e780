-- `sheet::blocks::is_aligned` meets its contract: the mask leaves the rest by a power of four.
use native.Mathlib.Omega.{arith}
use Rattle.cells.proofs.Fours.{masked, four_pos}
use Rattle.sheet.proofs.blocks.is_aligned.Goals as goal

pub overflow_sub-result : goal.overflow_sub-result
overflow_sub-result c = omega (arith, c.cells_under.ensures, four_pos c.args.level)

pub returns : goal.returns
returns c = masked _ _ _ c.cells_under.ensures
