-- `sheet::book::starts` meets its contract: the words before are as they were, and what parts the tails that are left parts them all.
use mathlib.Core.Path.{refl}
use native.Mathlib.Omega.{arith}
use Rattle.std.proofs.Common.{◌<◌, ◌+◌, ◌≢◌, length, get_or-set_other, get_or-set_same, below_more}
use Rattle.sheet.specs.Book.{Begins}
use Rattle.sheet.proofs.Grounds.{rest_is}
use Rattle.sheet.proofs.Booked.{begins_on}
use Rattle.sheet.proofs.book.starts.Goals as goal

pub loop-u-preserved : goal.loop-u-preserved
loop-u-preserved c =
    let l = c.loop-u in
    let B : Begins c.args.tails.now (length c.args.tails.now) l.u (l.i + c.first_from-i.result) = begins_on _ l.u l.i l.invariant.0 l.invariant.1 _ (rw (rest_is l.i l.i c.args.tails.now refl) at c.first_from-i.ensures) in (
      B.most,
      λ k p. omega (arith, B.low k p),
      below_more _ _ (λ v h. let d : v ≢ l.u = omega arith in rw get_or-set_other (l.invariant.2 v h)) (let h : l.u < length l.first = omega arith in rw get_or-set_same B),
    )
