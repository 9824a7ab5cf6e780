-- `quadtree::blocks::key_of` meets its contract.
use mathlib.Core.Path.{sym}
use Rattle.quadtree.proofs.Words.{key_room}
use Rattle.quadtree.proofs.blocks.key_of.Goals as goal

pub key-requires : goal.key-requires
key-requires c = let g = c.args.ground.now in key_room g.keeps g.fits _ c.requires _ _ (sym c.block-block.ensures.owner) (sym c.block-block.ensures.code)
