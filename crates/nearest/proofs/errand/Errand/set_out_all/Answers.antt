-- `Errand::set_out_all` meets its contract.
use native.Mathlib.Omega.{arith}
use Rattle.std.proofs.lemmas.Result.{err_from_is_err_and}
use Rattle.mintree.specs.Mintree.{Room}
use Rattle.mintree.proofs.Parts.{part_back, built_back, played_whole}
use Rattle.sheet.proofs.Grounds.{roll_count}
use Rattle.nearest.specs.Working.{tree_at}
use Rattle.nearest.proofs.Take.{beyond_then, beyond_same}
use Rattle.nearest.proofs.Begun.{prefix_none, prefix_next, prefix-refused, started_all}
use Rattle.nearest.proofs.errand.Errand.set_out_all.Goals as goal

pub loop-i-init : goal.loop-i-init
loop-i-init c = (omega arith, beyond_same _ _, prefix_none _ _ _)

pub returns-in_err-set_out-clause-all_started : goal.returns-in_err-set_out-clause-all_started
returns-in_err-set_out-clause-all_started c =
    let p = err_from_is_err_and c.from_residual.result c.from_residual.ensures.1 in
    rw (p.1, p.2) (prefix-refused _ _ c.loop-i.invariant.2 (omega (arith, roll_count c.args.self.now.roll, c.loop-i-test.true)) _ c.in_err-set_out.ensures.one_started)

pub loop-i-preserved : goal.loop-i-preserved
loop-i-preserved c =
    let n = roll_count c.args.self.now.roll in (
      omega arith,
      beyond_then c.loop-i.invariant.1 c.set_out.ensures.beyond,
      prefix_next _ _ c.loop-i.invariant.2 (omega (arith, n, c.loop-i-test.true)) (omega (arith, n, c.requires.1, c.loop-i.invariant.1.long)) _ c.in_ok-set_out.ensures.one_started,
    )

pub returns-clause-all_started : goal.returns-clause-all_started
returns-clause-all_started c =
    let R = c.args.self.now.roll in
    let long = c.loop-i.invariant.1.long in
    let F : Room c.loop-i.working (tree_at c.args.self.now.chart.ground.counts.offices) c.args.self.now.chart.ground.counts.offices = record { some = c.requires.0; ends = omega (arith, c.requires.1, long) } in
    started_all _ _ _ _ _ (roll_count R) (omega arith) c.loop-i.invariant.2 R.few (omega (arith, c.requires.1, long)) _ (built_back F c.build.auto.words c.build.ensures.same) (played_whole (part_back F c.build.auto.words) c.build.ensures.played)
