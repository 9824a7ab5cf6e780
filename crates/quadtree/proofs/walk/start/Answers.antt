-- `quadtree::walk::start` meets its contract.
use mathlib.Core.Path.{◌∙◌}
use Rattle.quadtree.proofs.Steps.{start_ends}
use Rattle.quadtree.proofs.walk.start.Goals as goal

pub returns : goal.returns
returns c = c.tested.ensures ∙ start_ends _ _ _ _ c.in_ok-first.ensures
