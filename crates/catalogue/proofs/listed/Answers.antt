-- `catalogue::listed` meets its contract.
use mathlib.Core.Path.{◌∙◌}
use Rattle.std.proofs.lemmas.Result.{err_from_is_err_and}
use Rattle.catalogue.proofs.Replied.{laid_host, refused_host}
use Rattle.catalogue.proofs.listed.Goals as goal

pub returns-in_err-sheet : goal.returns-in_err-sheet
returns-in_err-sheet c =
    let p = err_from_is_err_and c.from_residual.result c.from_residual.ensures.1 in
    rw (p.1, p.2) (refused_host _ c.args.q c.args.k c.args.direction _ _ _ _ (λ i p. (c.type_inv.answer i).fits) (λ i p. (c.type_inv.working i).fits) c.in_err-sheet.ensures.counts)

pub returns : goal.returns
returns c = c.ask.ensures ∙ laid_host _ c.args.q c.args.k c.args.direction _ _ _ _ _ _ c.in_ok-sheet.ensures.counts c.in_ok-sheet.ensures.parts.0 c.in_ok-sheet.ensures.parts.1
