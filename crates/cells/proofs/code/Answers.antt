-- `cells::code` meets its contract.
use native.Mathlib.Omega.{arith}
use Rattle.cells.proofs.Codes.{spread_lt, code_is}
use Rattle.cells.proofs.code.Goals as goal

pub overflow_mul-result : goal.overflow_mul-result
overflow_mul-result c = omega (arith, spread_lt c.args.c.x, spread_lt c.args.c.y)

pub overflow_add-result : goal.overflow_add-result
overflow_add-result c = omega (arith, spread_lt c.args.c.x, spread_lt c.args.c.y)

pub returns : goal.returns
returns c = code_is _ _ _ _ c.spread.ensures c.spread-2.ensures
