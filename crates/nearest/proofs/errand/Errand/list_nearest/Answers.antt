-- `Errand::list_nearest` meets its contract. The invariant: on any map that has the chart, the listing is under way.
use mathlib.Core.Path.{subst}
use Prim.Native.Nat.{ℕ, ◌*◌, ◌≤◌, ◌<◌}
use native.Mathlib.Omega.{arith}
use Rattle.std.proofs.lemmas.Result.{err_from_is_err_and}
use Rattle.paper.specs.Sizes.{most_offices, most_places}
use Rattle.paper.specs.Map.{Map}
use Rattle.paper.specs.Listing.{State}
use Rattle.sheet.specs.Charts.{OnChart}
use Rattle.sheet.proofs.Grounds.{roll_count}
use Rattle.quadtree.proofs.Words.{standing}
use Rattle.quadtree.specs.Walks.{trail_of}
use Rattle.nearest.specs.Working.{Shown}
use Rattle.nearest.specs.Going.{Fresh, Waiting, ListedNow}
use Rattle.nearest.specs.Errands.{offices, places, asked}
use Rattle.nearest.proofs.Advance.{shown_as, counted}
use Rattle.nearest.proofs.Take.{beyond_then, beyond_same}
use Rattle.nearest.proofs.Progress.{progress_begin, progress_long, progress-shown, progress-waits, progress-most, progress-small, progress-listed, progress-walked, progress-refused, progress_done}
use Rattle.nearest.proofs.errand.Errand.list_nearest.Goals.{At-loop-listed, In-Some}
use Rattle.nearest.proofs.errand.Errand.list_nearest.Goals as goal

-- one such listing: what the code needs to go on
record Under (c : At-loop-listed) : Type 0 where
  most : c.loop-listed.total ≤ offices c.args.self.now * places c.args.self.now
  small : c.loop-listed.total ≤ most_offices * most_places
  waits : c.loop-listed.listed < c.args.k → Waiting (places c.args.self.now) (offices c.args.self.now) c.loop-listed.working

under : (c : At-loop-listed) → Under c
under c =
    let e = c.args.self.now in
    let C = c.requires.charted.on in
    let B = c.requires.begun in
    let P = c.loop-listed.invariant.1 _ C B.slots B.shown B.fresh in
    let p = counted e.chart.ground.keeps C in
    let n = roll_count e.roll in
    record {
      most = progress-most P _ _ p n;
      small = progress-small P _ _ p n e.roll.few (standing e.chart.ground.keeps).within.places;
      waits = λ h. progress-waits P _ _ p n h c.requires.k_le_offices.0;
    }

-- who is listed, on any map that has the chart
who : (c : In-Some) (m : Map) → OnChart c.args.self.now.chart m → (st : State)
    → Shown (places c.args.self.now) (offices c.args.self.now) c.loop-listed.working st.slots
    → ListedNow m (asked c.args.self.now) st c.advance.new.working c.in-Some.number (trail_of c.in-Some.trail)
who c m C st S = rw c.in-Some.is at (c.in_ok-number.ensures.stepped m C st S)

pub loop-listed-init : goal.loop-listed-init
loop-listed-init c =
    let e = c.args.self.now in
    (beyond_same _ _, λ m C ss S F. progress_begin _ _ _ ss _ _ (shown_as (counted e.chart.ground.keeps C) (roll_count e.roll) S) (subst (λ (n : ℕ). Fresh n ss) (roll_count e.roll) F))

pub advance-requires-clause-waiting : goal.advance-requires-clause-waiting
advance-requires-clause-waiting c = (under (goal.at.advance-requires-clause-waiting c).At-loop-listed).waits c.loop-listed-test.true

pub returns-in_err-number-clause-came : goal.returns-in_err-number-clause-came
returns-in_err-number-clause-came c m C ss S F =
    let e = c.args.self.now in
    let Q = c.loop-listed.invariant.1 m C ss S F in
    let S' = progress-shown Q _ _ (counted e.chart.ground.keeps C) (roll_count e.roll) in
    let p = err_from_is_err_and c.from_residual.result c.from_residual.ensures.1 in
    rw (p.1, p.2) (progress-refused Q c.loop-listed-test.true (omega (arith, roll_count e.roll, c.requires.k_le_offices.0)) _ (c.in_err-number.ensures.stepped m C _ S'))

pub list_office-requires : goal.list_office-requires
list_office-requires c =
    let e = c.args.self.now in
    let C = c.requires.charted.on in
    let B = c.requires.begun in
    let Q = c.loop-listed.invariant.1 _ C B.slots B.shown B.fresh in
    let S' = progress-shown Q _ _ (counted e.chart.ground.keeps C) (roll_count e.roll) in
    (omega (arith, (who (goal.at.list_office-requires c).In-Some _ C Q.going.state S').here, roll_count e.roll), omega (arith, progress_long Q, c.loop-listed-test.true, c.requires.k_le_offices.1))

pub loop-listed-smaller-in-Some : goal.loop-listed-smaller-in-Some
loop-listed-smaller-in-Some c = omega (arith, c.loop-listed-test.true, (under (goal.at.loop-listed-smaller-in-Some c).At-loop-listed).most)

pub loop-listed-preserved-in-Some : goal.loop-listed-preserved-in-Some
loop-listed-preserved-in-Some c = let e = c.args.self.now in (
  beyond_then c.loop-listed.invariant.0 c.advance.ensures.beyond,
  λ m C ss S F. let Q = c.loop-listed.invariant.1 m C ss S F in
      let S' = progress-shown Q _ _ (counted e.chart.ground.keeps C) (roll_count e.roll) in
      progress-listed Q c.loop-listed-test.true (omega (arith, roll_count e.roll, c.requires.k_le_offices.0)) _ _ _ _ (who (goal.at.loop-listed-preserved-in-Some c).In-Some m C _ S') (c.list_office.ensures m C.ground),
)

pub overflow_add-total : goal.overflow_add-total
overflow_add-total c = omega (arith, (under (goal.at.overflow_add-total c).At-loop-listed).small)

pub loop-listed-smaller : goal.loop-listed-smaller
loop-listed-smaller c = omega (arith, c.loop-listed-test.true, (under (goal.at.loop-listed-smaller c).At-loop-listed).most)

pub loop-listed-preserved : goal.loop-listed-preserved
loop-listed-preserved c = let e = c.args.self.now in (
  beyond_then c.loop-listed.invariant.0 c.advance.ensures.beyond,
  λ m C ss S F. let Q = c.loop-listed.invariant.1 m C ss S F in
      let S' = progress-shown Q _ _ (counted e.chart.ground.keeps C) (roll_count e.roll) in
      progress-walked Q c.loop-listed-test.true (omega (arith, roll_count e.roll, c.requires.k_le_offices.0)) _ (rw c.in-None.is at (c.in_ok-number.ensures.stepped m C Q.going.state S')),
)

pub returns-clause-came : goal.returns-clause-came
returns-clause-came c m C ss S F = progress_done (c.loop-listed.invariant.1 m C ss S F) c.loop-listed-test.false c.requires.k_le_offices.1
