-- `text::put_digits` meets its contract. The invariant: the digits from p on are written, those of `rest` are left. The measure is p.
use mathlib.Core.Path.{refl}
use native.Mathlib.Omega.{arith}
use lib.ListN.{length-set}
use Rattle.text.proofs.Fill.{filling_start, filling_step, filling_end}
use Rattle.text.proofs.put_digits.Goals as goal

pub loop-p-init : goal.loop-p-init
loop-p-init c = (filling_start _ _ _ _ c.requires.0 c.requires.1, refl)

pub loop-p-preserved : goal.loop-p-preserved
loop-p-preserved c = (filling_step c.loop-p.invariant.0 c.loop-p-test.true c.digit.ensures, simp length-set (omega arith))

pub returns : goal.returns
returns c = filling_end c.loop-p.invariant.0 c.loop-p-test.false
