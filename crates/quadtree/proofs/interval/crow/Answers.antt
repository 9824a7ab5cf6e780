-- `quadtree::interval::crow` meets its contract.
use Rattle.quadtree.proofs.Words.{place_room, on_grid}
use Rattle.quadtree.proofs.interval.crow.Goals as goal

pub cell_of-requires : goal.cell_of-requires
cell_of-requires c = place_room c.args.ground.now.keeps _ c.requires.0

pub cell_of-requires-2 : goal.cell_of-requires-2
cell_of-requires-2 c = place_room c.args.ground.now.keeps _ c.requires.1

pub crow-requires : goal.crow-requires
crow-requires c = (on_grid c.args.ground.now.keeps _ _ c.requires.0 c.cell_of.ensures, on_grid c.args.ground.now.keeps _ _ c.requires.1 c.cell_of-2.ensures)
