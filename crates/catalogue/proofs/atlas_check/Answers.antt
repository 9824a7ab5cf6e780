-- `catalogue::atlas_check` meets its contract.
use Rattle.paper.proofs.Laid.{laid_out}
use Rattle.paper.proofs.Host.{host_checked_truth}
use Rattle.catalogue.proofs.atlas_check.Goals as goal

pub returns-in-Ok-clause-truth : goal.returns-in-Ok-clause-truth
returns-in-Ok-clause-truth c long = host_checked_truth (laid_out _ (λ i p. (c.type_inv.sheet i).fits)) long c.in-Ok.ensures

pub returns-in-Err-clause-truth : goal.returns-in-Err-clause-truth
returns-in-Err-clause-truth c long = rw c.from.ensures (host_checked_truth (laid_out _ (λ i p. (c.type_inv.sheet i).fits)) long c.in-Err.ensures)
