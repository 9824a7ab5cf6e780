-- `quadtree::blocks::last_up_to` meets its contract. The invariant: the block is one of the next `span`. The measure is `span`.
use Rattle.paper.specs.Sheet.{map_of}
use Rattle.quadtree.proofs.Search.{Narrow}
use Rattle.quadtree.proofs.blocks.last_up_to.Given as goal

abbrev pub invariant-loop-span : goal.invariant-loop-span
invariant-loop-span l = Narrow (map_of l.ground.bytes.now) l.asked l.last l.span

abbrev pub decreases-loop-span : goal.decreases-loop-span
decreases-loop-span l = l.span
