-- `cells::cells_under` meets its contract.
use Rattle.cells.proofs.Fours.{one_shifted}
use Rattle.cells.proofs.cells_under.Goals as goal

pub returns : goal.returns
returns c = one_shifted _ c.requires
