-- `truth::slices::store_column` meets its contract. The invariant is `Storing`: the first u words of the column are stored.
use Rattle.truth.proofs.Area.{Storing}
use Rattle.truth.proofs.slices.store_column.Given as goal

abbrev pub invariant-loop-u : goal.invariant-loop-u
invariant-loop-u l = Storing l.n l.v l.u l.column l.initial.distances l.distances
