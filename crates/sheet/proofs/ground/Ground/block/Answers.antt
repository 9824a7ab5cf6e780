-- `Ground::block` meets its contract: the record lies in the section of blocks.
use native.Mathlib.Omega.{arith}
use Rattle.sheet.proofs.Room.{room}
use Rattle.sheet.proofs.ground.Ground.block.Goals as goal

pub blocks_at-requires : goal.blocks_at-requires
blocks_at-requires c = (room _ _ c.args.self.now.keeps.parts).within

pub read_block-requires : goal.read_block-requires
read_block-requires c = let R = room _ _ c.args.self.now.keeps.parts in (omega (arith, R, c.blocks_at.ensures), omega (arith, R, c.blocks_at.ensures, c.requires))
