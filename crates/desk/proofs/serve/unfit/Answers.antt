-- `desk::serve::unfit` meets its contract.
use mathlib.Core.Path.{◌≡◌, ap, ◌∙◌}
use Rattle.std.proofs.lemmas.Result.{err_from_is_err_and}
use Rattle.paper.specs.Served.{served}
use Rattle.paper.specs.Printed.{sheet_in}
use Rattle.sheet.specs.Laid.{laid_of}
use Rattle.desk.proofs.Unfit.{sheet_part, unfit_short, unfit_long, unfit-places, unfit-offices, unfit-not, unfit-layout}
use Rattle.desk.proofs.serve.unfit.Goals.{In_ok-counts, then-input-lt-ASKED_BYTES-via-then-input-lt-ASKED_BYTES as short, then-input-lt-ASKED_BYTES-via-else-input-lt-ASKED_BYTES+then-input as long, then-counts-gt-PROGRAM_PLACES-via-then-counts-gt-PROGRAM_PLACES as places, then-counts-gt-PROGRAM_PLACES-via-else-counts-gt-PROGRAM_PLACES+then-counts-gt-PROGRAM_OFFICES as offices}
use Rattle.desk.proofs.serve.unfit.Goals as goal

-- the counts are those of the input's sheet
counted : (c : In_ok-counts) → served c.in_ok-counts.field-0.map.counts ≡ laid_of (sheet_in c.args.input.now)
counted c = c.in_ok-counts.ensures.counts ∙ ap laid_of (sheet_part c.args.input.now)

pub returns-then-input-lt-ASKED_BYTES : goal.returns-then-input-lt-ASKED_BYTES
returns-then-input-lt-ASKED_BYTES c = elim c.then-input-lt-ASKED_BYTES.branch [ short w ↦ unfit_short _ w.if-input-lt-ASKED_BYTES.true | long w ↦ unfit_long _ w.if-input.true ]

pub returns-in_err-counts : goal.returns-in_err-counts
returns-in_err-counts c =
    let p = err_from_is_err_and c.from_residual.result c.from_residual.ensures.1 in
    rw (p.1, p.2) (unfit-layout _ c.if-input-lt-ASKED_BYTES.false c.if-input.false _ (c.in_err-counts.ensures.counts ∙ ap laid_of (sheet_part c.args.input.now)))

pub returns-then-counts-gt-PROGRAM_PLACES : goal.returns-then-counts-gt-PROGRAM_PLACES
returns-then-counts-gt-PROGRAM_PLACES c =
    let e = counted (goal.at.returns-then-counts-gt-PROGRAM_PLACES c).In_ok-counts in
    elim c.then-counts-gt-PROGRAM_PLACES.branch [
      | places w ↦ unfit-places _ c.if-input-lt-ASKED_BYTES.false c.if-input.false _ e w.if-counts-gt-PROGRAM_PLACES.true
      | offices w ↦ unfit-offices _ c.if-input-lt-ASKED_BYTES.false c.if-input.false _ e w.if-counts-gt-PROGRAM_OFFICES.true
    ]

pub returns : goal.returns
returns c = unfit-not _ c.if-input-lt-ASKED_BYTES.false c.if-input.false _ (counted (goal.at.returns c).In_ok-counts) c.if-counts-gt-PROGRAM_PLACES.false c.if-counts-gt-PROGRAM_OFFICES.false
