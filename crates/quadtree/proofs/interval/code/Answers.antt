-- `quadtree::interval::code` meets its contract.
use Rattle.quadtree.proofs.Words.{place_room, on_grid}
use Rattle.quadtree.proofs.interval.code.Goals as goal

pub cell_of-requires : goal.cell_of-requires
cell_of-requires c = place_room c.args.ground.now.keeps _ c.requires

pub code-requires : goal.code-requires
code-requires c = on_grid c.args.ground.now.keeps _ _ c.requires c.cell_of.ensures
