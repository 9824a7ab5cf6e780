-- `desk::serve::serve` meets its contract.
use native.Mathlib.Omega.{arith}
use Rattle.text.proofs.Short.{refusal_short}
use Rattle.desk.proofs.Served.{serves_by, replied_true}
use Rattle.desk.proofs.serve.serve.Goals as goal

pub put_refusal-requires : goal.put_refusal-requires
put_refusal-requires c = omega (arith, c.requires, refusal_short c.from.result (omega arith))

pub returns-in-Ok : goal.returns-in-Ok
returns-in-Ok c = let (e, J) = c.in-Ok.ensures.passed in serves_by c.ask.ensures (replied_true _ e J)

pub returns-in-Err : goal.returns-in-Err
returns-in-Err c = serves_by c.put_refusal.ensures (rw c.from.ensures c.in-Err.ensures.refused)
