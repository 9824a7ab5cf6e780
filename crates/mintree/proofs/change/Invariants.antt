-- `mintree::change` meets its contract. The invariant: won is the word of the node p, and the rule holds but at the node above p. The measure is p.
use Rattle.mintree.proofs.Nodes.{Loose}
use Rattle.mintree.proofs.change.Given as goal

abbrev pub invariant-loop-p : goal.invariant-loop-p
invariant-loop-p l = Loose l.initial.words l.words 0 l.n l.p l.won

abbrev pub decreases-loop-p : goal.decreases-loop-p
decreases-loop-p l = l.p
