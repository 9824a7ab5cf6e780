-- `truth::slices::store_column` meets its contract. The invariant is `Storing`: the first u words of the column are stored.
use Prim.Native.Nat.{◌<◌}
use native.Mathlib.Omega.{arith}
use lib.Seq.{get_or-take, length-take-le}
use Rattle.truth.proofs.Area.{storing_more}
use Rattle.truth.proofs.slices.store_column.Goals as goal

pub loop-u-preserved : goal.loop-u-preserved
loop-u-preserved c =
    let a = c.args in
    let p : c.loop-u.u < a.n = omega (arith, length-take-le _ _ c.requires.3, c.loop-u-test.true) in
    rw (get_or-take a.n a.column.now _ 0 p) (storing_more _ _ _ _ _ _ c.requires.0 p (omega (arith, c.loop-u.invariant.size, c.requires.2)) c.loop-u.invariant)
