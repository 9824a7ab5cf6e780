-- `truth::pairs::column_fault` meets its contract. The invariant: the first u pairs are gone through (`Gone`), and nothing is due for them, by the chart and on
-- any map that has it.
use mathlib.Core.Path.{◌≡◌, sym, ap, ◌∙◌}
use native.Mathlib.Omega.{arith}
use lib.ListN.{length}
use Rattle.paper.specs.Refusal.{number}
use Rattle.paper.proofs.Numbers.{number_some}
use Rattle.truth.specs.Faults.{none_below}
use Rattle.truth.proofs.Pairing.{clean_none, clean_more, looked_stop, looked_all, gone_none, gone-size, gone-more, gone-stop, gone-all}
use Rattle.truth.proofs.pairs.column_fault.Goals.{At-loop-u}
use Rattle.truth.proofs.pairs.column_fault.Goals as goal

-- the marks keep their length
size : (c : At-loop-u) → length c.loop-u.marks ≡ length c.args.marks.now
size c = gone-size _ _ _ _ _ _ c.loop-u.invariant.0

pub loop-u-init : goal.loop-u-init
loop-u-init c = (gone_none _ _ _ _, clean_none _, λ m C. clean_none _)

pub pair_fault-requires : goal.pair_fault-requires
pair_fault-requires c = (omega (arith, c.loop-u-test.true, c.requires.0), c.requires.1, c.requires.2, omega (arith, size (goal.at.pair_fault-requires c).At-loop-u, c.requires.3), c.code-code.ensures)

pub returns-in-Err : goal.returns-in-Err
returns-in-Err c =
    let i = c.loop-u.invariant in
    let due = sym (ap number c.in-Err.is) in
    record {
      by_chart = looked_stop _ _ _ i.1 _ c.loop-u-test.true (due ∙ c.pair_fault.ensures.by_chart) (λ e. omega (arith, number_some c.in-Err.refusal, e));
      looked = λ m C. looked_stop _ _ _ (i.2 m C) _ c.loop-u-test.true (due ∙ c.pair_fault.ensures.value m C) (λ e. omega (arith, number_some c.in-Err.refusal, e));
      within = omega (arith, c.loop-u-test.true);
      marks_after = gone-stop _ _ _ _ _ _ i.0 _ c.loop-u-test.true c.pair_fault.ensures.marks_after;
    }

pub loop-u-preserved : goal.loop-u-preserved
loop-u-preserved c =
    let i = c.loop-u.invariant in
    let clean = ap number c.in_default.is in
    let old = none_below c.args.below in (
      gone-more _ _ _ _ _ _ i.0 _ c.loop-u-test.true c.pair_fault.ensures.marks_after,
      clean_more _ _ old i.1 (sym c.pair_fault.ensures.by_chart ∙ clean),
      λ m C. clean_more _ _ old (i.2 m C) (sym (c.pair_fault.ensures.value m C) ∙ clean),
    )

pub returns : goal.returns
returns c =
    let i = c.loop-u.invariant in
    let all = c.loop-u-test.false in
    record { by_chart = looked_all _ _ _ i.1 all; looked = λ m C. looked_all _ _ _ (i.2 m C) all; within = omega arith; marks_after = gone-all _ _ _ _ _ _ i.0 all }
