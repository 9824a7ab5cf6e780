-- `quadtree::blocks::covers` meets its contract: each return is one of the tests of the definition.
use mathlib.Core.Path.{sym}
use native.Mathlib.Omega.{arith}
use Rattle.quadtree.proofs.Words.{level_room, end_room}
use Rattle.quadtree.proofs.Search.{covers_from}
use Rattle.quadtree.proofs.blocks.covers.Goals as goal

pub cells_under-requires : goal.cells_under-requires
cells_under-requires c = let g = c.args.ground.now in level_room g.keeps g.fits _ c.requires _ (sym c.block-block.ensures.level)

pub overflow_add-result : goal.overflow_add-result
overflow_add-result c = let g = c.args.ground.now in let b = c.block-block.ensures in omega (arith, end_room g.keeps g.fits _ c.requires _ _ _ (sym b.code) (sym b.level) c.cells_under.ensures)

pub returns : goal.returns
returns c = let b = c.block-block.ensures in covers_from _ _ _ _ _ _ _ _ (sym b.owner) c.if-block-u.false (sym b.code) c.if-code-block.false (sym b.level) c.cells_under.ensures
