-- `truth::check` meets its contract: the map of a sheet that is laid out is judged, and the number of any other is given.
use Rattle.std.proofs.lemmas.Result.{err_from_is_err_and}
use Rattle.paper.proofs.Laid.{laid_out}
use Rattle.paper.proofs.Checked.{checked_truth}
use Rattle.truth.proofs.Surveyed.{laid_checked, laid_refused}
use Rattle.truth.proofs.Over.{checked_words}
use Rattle.truth.proofs.check.Goals as goal

pub returns-in_err-sheet : goal.returns-in_err-sheet
returns-in_err-sheet c =
    let p = err_from_is_err_and c.from_residual.result c.from_residual.ensures.1 in
    let ended = laid_refused _ _ _ c.in_err-sheet.ensures.counts in
    rw (p.1, p.2) (record { rules = ended; truth = λ long. checked_truth (laid_out _ (λ i p. (c.type_inv.sheet i).fits)) long ended })

pub returns : goal.returns
returns c =
    let ended = laid_checked _ _ _ _ _ c.in_ok-sheet.ensures.counts (checked_words _ _ _ _ _ (rw c.in_ok-sheet.ensures.parts.0 at c.judge.ensures)) in
    record { rules = ended; truth = λ long. checked_truth (laid_out _ (λ i p. (c.type_inv.sheet i).fits)) long ended }
