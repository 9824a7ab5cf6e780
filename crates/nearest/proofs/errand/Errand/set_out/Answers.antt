-- `Errand::set_out` meets its contract.
use mathlib.Core.Path.{refl, sym}
use Prim.Native.Nat.{◌<◌}
use native.Mathlib.Omega.{arith}
use Rattle.paper.proofs.Bounds.{start_sane}
use Rattle.sheet.proofs.Grounds.{ground_rules, roll_count}
use Rattle.quadtree.proofs.Words.{standing}
use Rattle.nearest.specs.Errands.{ground_of, asked}
use Rattle.nearest.proofs.Quests.{quest_from, quest_to}
use Rattle.nearest.proofs.Begun.{started_now}
use Rattle.nearest.proofs.errand.Errand.set_out.Goals.{Start}
use Rattle.nearest.proofs.errand.Errand.set_out.Goals as goal

-- the road runs between places
module _ (c : Start) where
  from : (asked c.args.self.now).from c.args.i < (ground_of c.args.self.now).places
  from = let e = c.args.self.now in omega (arith, (standing e.chart.ground.keeps).places, quest_from e.roll e.quest e.placed _ c.requires.0)

  to : (asked c.args.self.now).to c.args.i < (ground_of c.args.self.now).places
  to = let e = c.args.self.now in omega (arith, (standing e.chart.ground.keeps).places, quest_to e.roll e.quest e.placed _ c.requires.0)

pub key-requires : goal.key-requires
key-requires c =
    let g = c.args.self.now.chart.ground in
    let b = (goal.at.key-requires c).Start in
    let S = start_sane (ground_rules g.fits g.keeps) _ _ _ (from b) (to b) (sym c.in_ok-first.ensures) in
    (omega (arith, S.ordered, S.high), omega (arith, c.requires.0, c.args.self.now.roll.few))

pub returns-clause-one_started : goal.returns-clause-one_started
returns-clause-one_started c =
    let g = c.args.self.now.chart.ground in
    let b = (goal.at.returns-clause-one_started c).Start in
    started_now (ground_rules g.fits g.keeps) _ _ _ _ _ _ _ _ _ (from b) (to b) refl refl (sym c.in_ok-first.ensures) c.store.ensures (omega (arith, roll_count c.args.self.now.roll)) c.key.ensures
