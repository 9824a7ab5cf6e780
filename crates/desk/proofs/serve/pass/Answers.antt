-- `desk::serve::pass` meets its contract.
use Prim.Native.Nat.{◌≤◌}
use mathlib.Core.Path.{sym, subst}
use mathlib.Core.List.{List}
use lib.ListN.{length}
use Prim.Native.Nat.{ℕ}
use Rattle.std.proofs.lemmas.Result.{err_from_is_err_and}
use Rattle.paper.specs.Sizes.{asked_bytes}
use Rattle.paper.specs.Refusal.{number}
use Rattle.paper.specs.Printed.{sheet_in}
use Rattle.desk.specs.Serve.{Judged}
use Rattle.desk.proofs.Unfit.{fit, sheet_part}
use Rattle.desk.proofs.Served.{refused_unfit, judged_true, judged_untrue}
use Rattle.desk.proofs.serve.pass.Goals.{In_ok-unfit, After-judge}
use Rattle.desk.proofs.serve.pass.Goals as goal

-- an input that passes the tests, and what the check says of its sheet
long : (c : In_ok-unfit) → asked_bytes ≤ length c.args.input.now
long c = (fit _ (sym c.in_ok-unfit.ensures)).long

judged : (c : After-judge) → Judged (sheet_in c.args.input.now) (number c.judge.result)
judged c = subst (λ (l : List ℕ). Judged l (number c.judge.result)) (sheet_part c.args.input.now) c.judge.ensures

pub returns-in_err-unfit-clause-refused : goal.returns-in_err-unfit-clause-refused
returns-in_err-unfit-clause-refused c =
    let p = err_from_is_err_and c.from_residual.result c.from_residual.ensures.1 in
    rw (p.1, p.2) (refused_unfit _ _ c.in_err-unfit.ensures)

pub slice_bounds-judge-count : goal.slice_bounds-judge-count
slice_bounds-judge-count c = long (goal.at.slice_bounds-judge-count c).In_ok-unfit

pub slice_bounds-judge-start : goal.slice_bounds-judge-start
slice_bounds-judge-start c = long (goal.at.slice_bounds-judge-start c).In_ok-unfit

pub returns-clause-passed : goal.returns-clause-passed
returns-clause-passed c = judged_true _ c.judge.result (sym c.in_ok-unfit.ensures) (judged (goal.at.returns-clause-passed c).After-judge)

pub returns-clause-refused : goal.returns-clause-refused
returns-clause-refused c = judged_untrue _ c.judge.result (sym c.in_ok-unfit.ensures) (judged (goal.at.returns-clause-refused c).After-judge)
