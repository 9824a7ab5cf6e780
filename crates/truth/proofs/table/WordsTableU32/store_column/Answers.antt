-- `Words::store_column` meets the contract of `Table`.
use Rattle.truth.proofs.Over.{stored_over}
use Rattle.truth.proofs.table.WordsTableU32.store_column.Goals as goal

pub returns : goal.returns
returns c words b long size e = stored_over _ _ _ _ _ _ _ size e c.store_column.ensures
