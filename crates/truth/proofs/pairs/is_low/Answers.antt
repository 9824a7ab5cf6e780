-- `truth::pairs::is_low` meets its contract.
use mathlib.Core.Path.{refl}
use native.Mathlib.Omega.{arith}
use Rattle.quadtree.proofs.Sizes.{product_room}
use Rattle.truth.proofs.pairs.is_low.Goals as goal

pub overflow_mul-least : goal.overflow_mul-least
overflow_mul-least c = omega (arith, product_room c.args.ratio c.args.c.0 (omega arith) (omega arith))

pub returns : goal.returns
returns c = refl
