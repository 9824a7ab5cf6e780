-- `Roads::settle` meets its contract. The invariant is `Settling`. The measure is how many places are not settled.
use Rattle.roads.proofs.Settling.{Settling, left}
use Rattle.roads.proofs.roads.Roads.settle.Given as goal

abbrev pub invariant-loop-t : goal.invariant-loop-t
invariant-loop-t l = let r = l.self in Settling r.tails.now r.lengths.now r.last.now r.previous.now r.places l.initial.column l.initial.words l.column l.words

abbrev pub decreases-loop-t : goal.decreases-loop-t
decreases-loop-t l = left l.self.places l.column l.words
