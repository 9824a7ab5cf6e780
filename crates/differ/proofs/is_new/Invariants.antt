-- `differ::is_new` meets its contract. The invariant: word i is on its way down the tree of those before it, which nothing has changed.
use Prim.Native.Nat.{◌-◌}
use Rattle.differ.specs.Tree.{Hung}
use Rattle.differ.proofs.Hanging.{Seeking}
use Rattle.differ.proofs.is_new.Given as goal

abbrev pub invariant-loop-p : goal.invariant-loop-p
invariant-loop-p l = Hung l.words l.i l.kids × Seeking l.words l.i l.kids l.digits l.p

abbrev pub decreases-loop-p : goal.decreases-loop-p
decreases-loop-p l = l.i - l.p
