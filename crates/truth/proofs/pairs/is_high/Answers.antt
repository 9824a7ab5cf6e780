-- `truth::pairs::is_high` meets its contract.
use mathlib.Core.Path.{refl}
use native.Mathlib.Omega.{arith}
use Rattle.quadtree.proofs.Sizes.{product_room}
use Rattle.truth.proofs.pairs.is_high.Goals as goal

pub overflow_mul-result-2 : goal.overflow_mul-result-2
overflow_mul-result-2 c = omega (arith, product_room c.args.ratio c.args.c.0 (omega arith) (omega arith))

pub returns : goal.returns
returns c = refl
