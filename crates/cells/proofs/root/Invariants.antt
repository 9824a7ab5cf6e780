-- `cells::root` meets its contract. The invariant: the root is one of the next `span` numbers. The measure is `span`.
use Rattle.cells.proofs.Halving.{Within}
use Rattle.cells.proofs.root.Given as goal

abbrev pub invariant-loop-span : goal.invariant-loop-span
invariant-loop-span l = Within l.n l.root l.span

abbrev pub decreases-loop-span : goal.decreases-loop-span
decreases-loop-span l = l.span
