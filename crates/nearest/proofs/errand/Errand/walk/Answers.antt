-- `Errand::walk` meets its contract.
use mathlib.Core.Path.{◌≡◌, sym, subst, ◌∙◌}
use Prim.Native.Nat.{ℕ}
use native.Mathlib.Omega.{arith}
use Rattle.std.proofs.lemmas.Result.{err_from_is_err_and}
use Rattle.paper.specs.Map.{Map}
use Rattle.paper.specs.Quest.{Quest}
use Rattle.paper.specs.Listing.{starts}
use Rattle.paper.proofs.Ground.{starts-same}
use Rattle.sheet.specs.Charts.{OnChart}
use Rattle.sheet.proofs.Grounds.{roll_count}
use Rattle.quadtree.proofs.Words.{standing}
use Rattle.nearest.specs.Going.{Fresh, Begun, StartedAll}
use Rattle.nearest.specs.Errands.{offices, places, ground_of, asked}
use Rattle.nearest.proofs.Quests.{quest_from, quest_to}
use Rattle.nearest.proofs.Advance.{shown_as, counted}
use Rattle.nearest.proofs.Take.{beyond_same}
use Rattle.nearest.proofs.Begun.{listing_refused, listing_started}
use Rattle.nearest.proofs.errand.Errand.walk.Goals.{After-set_out_all}
use Rattle.nearest.proofs.errand.Errand.walk.Goals as goal

module _ (c : After-set_out_all) where
  abbrev x : Quest
  x = asked c.args.self.now

  -- what the first intervals come to is the same on any map that has the ground
  same : (m : Map) → OnChart c.args.self.now.chart m → starts m x x.count ≡ starts (ground_of c.args.self.now) x x.count
  same m C =
      let e = c.args.self.now in
      let p = counted e.chart.ground.keeps C in
      let n = roll_count e.roll in
      starts-same C.ground x x.count (λ i q. omega (arith, p, quest_from e.roll e.quest e.placed i (omega (arith, n))))
      (λ i q. omega (arith, p, quest_to e.roll e.quest e.placed i (omega (arith, n))))

  begun : StartedAll (ground_of c.args.self.now) x c.set_out_all.new.working
      → Begun (places c.args.self.now) (offices c.args.self.now) c.set_out_all.new.working
  begun A =
      let e = c.args.self.now in
      let n = sym (roll_count e.roll) in
      record {
        slots = A.begun.slots;
        shown = shown_as (sym (standing e.chart.ground.keeps).places) n A.begun.shown;
        fresh = subst (λ (n : ℕ). Fresh n A.begun.slots) n A.begun.fresh;
      }

pub returns-in_err-set_out_all-clause-came : goal.returns-in_err-set_out_all-clause-came
returns-in_err-set_out_all-clause-came c m C =
    let p = err_from_is_err_and c.from_residual.result c.from_residual.ensures.1 in
    rw (p.1, p.2) (listing_refused _ _ _ _ (same (goal.at.returns-in_err-set_out_all-clause-came c).After-set_out_all m C ∙ c.in_err-set_out_all.ensures.all_started), beyond_same _ _)

pub list_nearest-requires-clause-begun : goal.list_nearest-requires-clause-begun
list_nearest-requires-clause-begun c = begun (goal.at.list_nearest-requires-clause-begun c).After-set_out_all c.in_ok-set_out_all.ensures.all_started

pub returns-clause-came : goal.returns-clause-came
unfolding begun
returns-clause-came c m C =
    let b = (goal.at.returns-clause-came c).After-set_out_all in
    let A = c.in_ok-set_out_all.ensures.all_started in
    let B = begun b A in
    rw (listing_started m _ c.args.k _ (same b m C ∙ A.starts)) (c.list_nearest.ensures.came m C _ B.shown B.fresh)
