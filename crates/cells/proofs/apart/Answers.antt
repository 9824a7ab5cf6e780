-- `cells::apart` meets its contract.
use mathlib.Core.Path.{refl}
use Rattle.cells.proofs.apart.Goals as goal

pub returns : goal.returns
returns c = record { is = refl }
