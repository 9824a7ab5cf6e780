-- `quadtree::blocks::block_of` meets its contract: no block but the last up to the key can cover the code.
use mathlib.Core.Path.{sym, ◌∙◌}
use native.Mathlib.Omega.{arith}
use Rattle.paper.specs.Sheet.{map_of}
use Rattle.quadtree.specs.Blocks.{key_of, Last}
use Rattle.quadtree.proofs.Words.{standing, rules}
use Rattle.quadtree.proofs.Search.{cover_empty, cover-some, cover-none}
use Rattle.quadtree.proofs.blocks.block_of.Goals.{After-covers}
use Rattle.quadtree.proofs.blocks.block_of.Goals as goal

last : (c : After-covers) → Last (map_of c.args.ground.now.bytes.now) (key_of c.args.u c.args.code) c.last_up_to-b.result
last c = rw c.key.ensures at c.last_up_to-b.ensures

pub returns-then-ground-eq0 : goal.returns-then-ground-eq0
returns-then-ground-eq0 c = let g = c.args.ground.now in cover_empty (rules g.keeps g.fits) _ _ (omega (arith, c.if-ground-eq0.true, (standing g.keeps).blocks))

pub overflow_cast-place : goal.overflow_cast-place
overflow_cast-place c = omega (arith, (standing c.args.ground.now.keeps).within.places)

pub key-requires : goal.key-requires
key-requires c = omega (arith, (standing c.args.ground.now.keeps).within.places)

pub returns-then-covers : goal.returns-then-covers
returns-then-covers c = let g = c.args.ground.now in cover-some (rules g.keeps g.fits) _ _ _ c.requires.1 (last (goal.at.returns-then-covers c).After-covers) (sym c.covers.ensures ∙ c.if-covers.true)

pub returns-else-covers : goal.returns-else-covers
returns-else-covers c = let g = c.args.ground.now in cover-none (rules g.keeps g.fits) _ _ _ c.requires.1 (last (goal.at.returns-else-covers c).After-covers) (sym c.covers.ensures ∙ c.if-covers.false)
