-- `truth::tests::judged` meets its contract: the survey of the map that is read off the bytes.
use Rattle.sheet.proofs.Room.{room}
use Rattle.sheet.proofs.Booked.{zeros_roomy}
use Rattle.quadtree.proofs.Charts.{stocked}
use Rattle.truth.proofs.tests.judged.Goals as goal

pub survey-requires : goal.survey-requires
survey-requires c = let (roomy, places, stages) = zeros_roomy _ (room _ _ c.args.map.now.keeps.parts).within in record { roomy = roomy; places_in_bounds = (places, stages) }

pub invariant_of-surveyed : goal.invariant_of-surveyed
invariant_of-surveyed c = record { stocked = rw c.ground.ensures.bytes (stocked c.survey.ensures.charted) }
