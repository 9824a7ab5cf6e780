-- `quadtree::walk::walked_to` meets its contract. What is added up is within its bounds, so nothing wraps.
use mathlib.Core.Path.{ap, ◌∙◌}
use native.Mathlib.Omega.{arith}
use Rattle.paper.specs.Trail.{tested}
use Rattle.paper.proofs.Bounds.{sums}
use Rattle.quadtree.proofs.Words.{standing, rules}
use Rattle.quadtree.proofs.Steps.{walked_ends}
use Rattle.quadtree.proofs.Sizes.{ends_within}
use Rattle.quadtree.proofs.walk.walked_to.Goals as goal

pub onward-requires : goal.onward-requires
onward-requires c =
    let p = c.requires in
    let g = c.args.ground.now in
    let e = (standing g.keeps).places in
    let G = rules g.keeps g.fits in
    let B = ends_within G _ _ (omega (arith, p.0)) (omega (arith, p.1)) _ c.in_ok-next.ensures in
    (omega (arith, p.3.stages, G.places), sums (omega (arith, e, G.places)) p.3 p.4 p.5 B)

pub returns : goal.returns
returns c = c.tested.ensures ∙ ap tested c.onward.ensures ∙ walked_ends _ _ _ _ _ _ c.in_ok-next.ensures
