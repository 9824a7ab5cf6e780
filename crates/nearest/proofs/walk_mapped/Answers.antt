-- `nearest::walk_mapped` meets its contract: the map of the bytes has their ground and the book.
use Rattle.paper.specs.Sheet.{map_of}
use Rattle.sheet.specs.Ground.{Charted}
use Rattle.sheet.proofs.Room.{room}
use Rattle.sheet.proofs.Grounds.{mapped_charted}
use Rattle.sheet.proofs.Booked.{zeros_roomy}
use Rattle.quadtree.proofs.Charts.{stocked}
use Rattle.nearest.proofs.walk_mapped.Goals.{After-ground}
use Rattle.nearest.proofs.walk_mapped.Goals as goal

charted : (c : After-ground) → Charted c.ground.result.bytes.now c.road_book.new.first c.road_book.new.heads c.road_book.new.lengths (map_of c.args.sheet.now.map.bytes.now)
charted c = let M = c.args.sheet.now.map in rw c.ground.ensures.bytes (mapped_charted M.keeps M.fits _ _ _ c.road_book.ensures.book.leads)

pub road_book-requires : goal.road_book-requires
road_book-requires c = (zeros_roomy _ (room _ _ c.args.sheet.now.map.keeps.parts).within).0

pub invariant_of-errand : goal.invariant_of-errand
invariant_of-errand c = record { stocked = stocked (charted (goal.at.invariant_of-errand c).After-ground) }

pub walk-requires-clause-charted : goal.walk-requires-clause-charted
walk-requires-clause-charted c = record { map = _; on = charted (goal.at.walk-requires-clause-charted c).After-ground }

pub returns-clause-came : goal.returns-clause-came
returns-clause-came c = c.walk.ensures.came _ (charted (goal.at.returns-clause-came c).After-ground)
