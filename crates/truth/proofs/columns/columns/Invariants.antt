-- `truth::columns::columns` meets its contract. The invariant is `FillingIn`: the first v columns are judged, and stand in the table.
use Rattle.truth.proofs.Tabled.{FillingIn}
use Rattle.truth.proofs.columns.columns.Given as goal

abbrev pub invariant-loop-v : goal.invariant-loop-v
invariant-loop-v g l = FillingIn g.T.Table.held g.T.Table.written l.survey l.initial.table l.table l.marks l.column l.fault l.v
