-- `cells::crow` meets its contract: the root is unique, so it is the one that the definition finds.
use mathlib.Core.Path.{◌∙◌}
use native.Mathlib.Omega.{arith}
use Rattle.paper.specs.Crow.{gap}
use Rattle.cells.proofs.Codes.{gap_square, crow_is}
use Rattle.cells.proofs.crow.Goals as goal

pub root-requires : goal.root-requires
unfolding gap
root-requires c =
    let p = c.requires in
    omega (arith, gap_square _ _ _ p.0.x p.1.x (c.from-dx.ensures ∙ c.abs_diff.ensures), gap_square _ _ _ p.0.y p.1.y (c.from-dy.ensures ∙ c.abs_diff-2.ensures))

-- the root over the squares is the crow distance
pub returns : goal.returns
unfolding gap
returns c = crow_is _ _ _ _ _ (c.from-dx.ensures ∙ c.abs_diff.ensures) (c.from-dy.ensures ∙ c.abs_diff-2.ensures) c.root.ensures
