-- `roads::chain` meets its contract. The invariant is `Linked`: the chains of the first i stages.
use Rattle.roads.proofs.Chains.{Linked}
use Rattle.roads.proofs.chain.Given as goal

abbrev pub invariant-loop-i : goal.invariant-loop-i
invariant-loop-i l = Linked l.heads l.n l.i l.fn.last l.fn.previous l.last l.previous
