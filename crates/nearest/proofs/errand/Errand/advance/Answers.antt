-- `Errand::advance` meets its contract.
use mathlib.Core.Path.{refl, sym}
use Rattle.std.proofs.lemmas.Result.{err_from_is_err_and}
use Rattle.paper.specs.Bounds.{Sane}
use Rattle.sheet.proofs.Grounds.{roll_count}
use Rattle.quadtree.specs.Walks.{trail_of}
use Rattle.nearest.specs.Going.{Led}
use Rattle.nearest.specs.Errands.{offices, places}
use Rattle.nearest.proofs.Quests.{quest_to}
use Rattle.nearest.proofs.Advance.{advance_listed, advance-walked, advance-refused, one_out, counted, refined_sane}
use Rattle.nearest.proofs.errand.Errand.advance.Goals.{After-take_leader-lead, In_ok-next}
use Rattle.nearest.proofs.errand.Errand.advance.Goals as goal

-- the leader of the slots by which somebody waits
waiting : (c : After-take_leader-lead) → Led (places c.args.self.now) (offices c.args.self.now) c.requires.waiting.slots c.take_leader-lead.new.working c.take_leader-lead.result
waiting c = c.take_leader-lead.ensures.by_index _ _ c.requires.waiting.shown

-- the trail that it gets is sane
sane : (c : In_ok-next) → Sane (places c.args.self.now) (trail_of c.in_ok-next.next)
sane c =
    let e = c.args.self.now in
    let L = c.take_leader-lead.ensures.by_index _ _ c.requires.waiting.shown in
    let C = c.requires.charted.on in
    refined_sane e.chart.ground.keeps C _ (quest_to e.roll e.quest e.placed _ L.here) _ _ L.sane (c.in_ok-next.ensures _ C)

pub returns-then-lead-clause-stepped : goal.returns-then-lead-clause-stepped
returns-then-lead-clause-stepped c = λ m C st S. advance_listed _ _ _ _ (counted c.args.self.now.chart.ground.keeps C) (roll_count c.args.self.now.roll) st _ _ (c.take_leader-lead.ensures.by_index _ _ S) c.if-lead.true

pub next_trail-requires-clause-i_lt_offices :
    goal.next_trail-requires-clause-i_lt_offices
next_trail-requires-clause-i_lt_offices c = let L = waiting (goal.at.next_trail-requires-clause-i_lt_offices c).After-take_leader-lead in (L.here, L.sane)

pub returns-in_err-next-clause-stepped : goal.returns-in_err-next-clause-stepped
returns-in_err-next-clause-stepped c m C st S =
    let p = err_from_is_err_and c.from_residual.result c.from_residual.ensures.1 in
    rw (p.1, p.2) (advance-refused _ _ _ _ (counted c.args.self.now.chart.ground.keeps C) (roll_count c.args.self.now.roll) st _ _ (c.take_leader-lead.ensures.by_index _ _ S) c.if-lead.false _ refl _ (sym (c.in_err-next.ensures m C)))

pub put_back-requires : goal.put_back-requires
put_back-requires c = one_out (waiting (goal.at.put_back-requires c).After-take_leader-lead) _ (sane (goal.at.put_back-requires c).In_ok-next)

pub returns-clause-stepped : goal.returns-clause-stepped
returns-clause-stepped c = λ m C st S. let L = c.take_leader-lead.ensures.by_index _ _ S in
    advance-walked _ _ _ _ (counted c.args.self.now.chart.ground.keeps C) (roll_count c.args.self.now.roll) st _ _ L c.if-lead.false _ refl _ (sym (c.in_ok-next.ensures m C)) _
    (c.put_back.ensures.by_index _ st.slots L.shown (sane (goal.at.returns-clause-stepped c).In_ok-next))
