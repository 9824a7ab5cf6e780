-- `text::width` meets its contract. The invariant: what is counted and the digits of `rest` are one more than the digits of n. The measure is `rest`.
use native.Mathlib.Omega.{arith}
use Rattle.text.proofs.Digits.{decimal_short}
use Rattle.text.proofs.Fill.{counted_step, counted_end}
use Rattle.text.proofs.width.Goals as goal

pub loop-rest-init : goal.loop-rest-init
loop-rest-init c = omega arith

pub overflow_add-count : goal.overflow_add-count
overflow_add-count c = omega (arith, decimal_short c.args.n (omega arith))

pub loop-rest-preserved : goal.loop-rest-preserved
loop-rest-preserved c = (counted_step _ _ _ c.loop-rest.invariant.0 c.loop-rest-test.true, omega arith)

pub returns : goal.returns
returns c = counted_end _ _ _ c.loop-rest.invariant.0 c.loop-rest-test.false
