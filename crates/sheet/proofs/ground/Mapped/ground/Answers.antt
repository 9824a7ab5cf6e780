-- `Mapped::ground` meets its contract: what keeps every rule keeps those that do not speak of stages.
use Rattle.sheet.proofs.Grounds.{mapped_ground}
use Rattle.sheet.proofs.ground.Mapped.ground.Goals as goal

pub invariant_of-result : goal.invariant_of-result
invariant_of-result c = record { fits = c.args.self.now.fits; keeps = mapped_ground c.args.self.now.keeps }
