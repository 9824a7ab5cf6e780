-- `quadtree::blocks::last_up_to` meets its contract. The invariant: the block is one of the next `span`. The measure is `span`.
use native.Mathlib.Omega.{arith}
use Rattle.quadtree.proofs.Words.{rules}
use Rattle.quadtree.proofs.Search.{narrow_up, narrow_down}
use Rattle.quadtree.proofs.blocks.last_up_to.Goals.{then-key_of-asked, else-key_of-asked}
use Rattle.quadtree.proofs.blocks.last_up_to.Goals as goal

pub loop-span-preserved : goal.loop-span-preserved
loop-span-preserved c =
    let i = c.loop-span in
    let g = c.args.ground.now in
    let G = rules g.keeps g.fits in
    elim c.if-key_of-asked.branch [
      | then-key_of-asked w ↦ rw w.last-is (narrow_up G _ i.last i.span i.invariant (omega arith) (omega (arith, w.if-key_of-asked.true, c.key_of.ensures)))
      | else-key_of-asked w ↦ rw w.last-is (narrow_down G _ i.last i.span i.invariant (omega arith) (omega (arith, w.if-key_of-asked.false, c.key_of.ensures)))
    ]
