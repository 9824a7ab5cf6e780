-- `sheet::records` meets its contract: one law of `Passes` for each way out.
use mathlib.Core.Path.{◌≡◌, sym, ap, ◌∙◌}
use Rattle.paper.specs.Sheet.{map_of, offices_in, offices_of}
use Rattle.paper.specs.Layout.{offices_hold, layout}
use Rattle.sheet.specs.Laid.{laid_of}
use Rattle.sheet.proofs.Passes.{fresh}
use Rattle.sheet.proofs.Room.{room, parted}
use Rattle.sheet.proofs.Grounds.{rest_is, list_offices}
use Rattle.sheet.proofs.records.Goals.{After-offices_hold}
use Rattle.sheet.proofs.records.Goals as goal

-- the test of the list is that of the sheet's offices
tested : (c : After-offices_hold) → c.offices_hold.result ≡ offices_hold (map_of c.args.bytes.now) (offices_of c.args.bytes.now)
tested c =
    let list = rest_is _ _ c.args.bytes.now c.list_at.ensures in
    c.offices_hold.ensures (map_of c.args.bytes.now) (sym (parted _ _ c.requires).places) ∙ ap (offices_hold (map_of c.args.bytes.now)) (ap offices_in list ∙ list_offices _ _ c.requires)

pub invariant_of-parts : goal.invariant_of-parts
invariant_of-parts c = record { parted = parted _ _ c.requires }

pub stages_hold-requires : goal.stages_hold-requires
stages_hold-requires c = fresh _ (room _ _ (parted _ _ c.requires)).within.places

pub returns-then-not-offices_hold : goal.returns-then-not-offices_hold
unfolding laid_of layout
returns-then-not-offices_hold c = rw (c.requires.whole, ← c.if-not-places_hold.ensures, ← c.if-not-stages_hold.ensures.value, ← c.if-not-blocks_hold.ensures, ← tested (goal.at.returns-then-not-offices_hold c).After-offices_hold, c.if-not-offices_hold.true)

pub returns : goal.returns
unfolding laid_of layout
returns c = rw (c.requires.whole, c.requires.counts, ← c.if-not-places_hold.ensures, ← c.if-not-stages_hold.ensures.value, ← c.if-not-blocks_hold.ensures, ← tested (goal.at.returns c).After-offices_hold, c.if-not-offices_hold.false)
