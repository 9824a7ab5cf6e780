-- `mintree::build` meets its contract. The invariant: the rule holds from the node p on.
use Rattle.mintree.proofs.Nodes.{Built}
use Rattle.mintree.proofs.build.Given as goal

abbrev pub invariant-loop-p : goal.invariant-loop-p
invariant-loop-p l = Built l.initial.words l.words 0 l.n l.p
