-- `catalogue::check` meets its contract: the map of a sheet that is laid out is judged, and the number of any other is given.
use Rattle.std.proofs.lemmas.Result.{err_from_is_err_and}
use Rattle.catalogue.proofs.Tabled.{laid_in, refused_in}
use Rattle.catalogue.proofs.check.Goals as goal

pub returns-in_err-sheet : goal.returns-in_err-sheet
returns-in_err-sheet c =
    let p = err_from_is_err_and c.from_residual.result c.from_residual.ensures.1 in
    rw (p.1, p.2) (refused_in _ _ _ (λ i p. (c.type_inv.distances i).fits) c.in_err-sheet.ensures.counts)

pub returns : goal.returns
returns c = laid_in _ _ _ _ _ c.in_ok-sheet.ensures.counts (rw c.in_ok-sheet.ensures.parts.0 at c.judge.ensures)
