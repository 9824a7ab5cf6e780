-- `Errand::stand` meets its contract.
use Rattle.paper.specs.Sheet.{offices_in}
use Rattle.nearest.proofs.errand.Errand.stand.Goals as goal

pub returns-clause-at : goal.returns-clause-at
unfolding offices_in
returns-clause-at c = c.word.ensures
