-- `nearest::ask` meets its contract.
use mathlib.Core.Path.{◌≡◌, refl, sym}
use native.Mathlib.Omega.{arith}
use Rattle.std.proofs.lemmas.List.{length-take-le}
use Rattle.std.proofs.lemmas.Result.{err_from_is_err_and}
use Rattle.paper.specs.Sheet.{map_of, offices_in}
use Rattle.paper.specs.Reply.{invalid}
use Rattle.sheet.proofs.Grounds.{roll_count}
use Rattle.paper.proofs.Cleared.{filled}
use Rattle.nearest.proofs.Asking.{ask_invalid, ask-allowed, ask-works, ask-done, ask-refused}
use Rattle.nearest.proofs.ask.Goals.{In_ok-invalid}
use Rattle.nearest.proofs.ask.Goals as goal

-- nothing of 7, 8 and 9 is due
none : (c : In_ok-invalid) → 0 ≡ invalid (map_of c.args.sheet.now.map.bytes.now) (offices_in c.args.sheet.now.list.now) c.args.q c.args.k c.args.direction c.args.answer.now c.args.working.now
none c = c.in_ok-invalid.ensures _ _ _ _ (sym c.args.sheet.now.map.keeps.parts.places) (sym (roll_count c.args.sheet.now.roll)) refl refl

pub returns-in_err-invalid : goal.returns-in_err-invalid
returns-in_err-invalid c =
    let p = err_from_is_err_and c.from_residual.result c.from_residual.ensures.1 in
    let s = c.args.sheet.now in
    rw (p.1, p.2) (ask_invalid s _ _ _ _ _ _ (c.in_err-invalid.ensures _ _ _ _ (sym s.map.keeps.parts.places) (sym (roll_count s.roll)) refl refl))

pub walk_mapped-walked-requires : goal.walk_mapped-walked-requires
walk_mapped-walked-requires c =
    let s = c.args.sheet.now in
    let ok = none (goal.at.walk_mapped-walked-requires c).In_ok-invalid in
    let A = ask-allowed s _ _ _ _ _ ok in
    (omega (arith, A.place, s.map.keeps.parts.places), A.one, omega (arith, A.enough, roll_count s.roll), A.answers, ask-works s _ _ _ _ _ ok)

pub slice_bounds-fill-end : goal.slice_bounds-fill-end
slice_bounds-fill-end c = omega (arith, ask-works c.args.sheet.now _ _ _ _ _ (none (goal.at.slice_bounds-fill-end c).In_ok-invalid), c.walk_mapped-walked.ensures.beyond.long)

pub slice_bounds-fill-end-2 : goal.slice_bounds-fill-end-2
slice_bounds-fill-end-2 c = sym (length-take-le _ _ (omega (arith, ask-works c.args.sheet.now _ _ _ _ _ (none (goal.at.slice_bounds-fill-end-2 c).In_ok-invalid), c.walk_mapped-walked.ensures.beyond.long)))

pub slice_bounds-fill-end-in-Err : goal.slice_bounds-fill-end-in-Err
slice_bounds-fill-end-in-Err c = omega (arith, (ask-allowed c.args.sheet.now _ _ _ _ _ (none (goal.at.slice_bounds-fill-end-in-Err c).In_ok-invalid)).answers, c.in-Err.ensures.came.1.long)

pub slice_bounds-fill-end-in-Err-2 : goal.slice_bounds-fill-end-in-Err-2
slice_bounds-fill-end-in-Err-2 c = sym (length-take-le _ _ (omega (arith, (ask-allowed c.args.sheet.now _ _ _ _ _ (none (goal.at.slice_bounds-fill-end-in-Err-2 c).In_ok-invalid)).answers, c.in-Err.ensures.came.1.long)))

pub returns-in-Ok : goal.returns-in-Ok
returns-in-Ok c =
    let ok = none (goal.at.returns-in-Ok c).In_ok-invalid in
    let (st, made, total, text) = c.in-Ok.ensures.came in
    let B = c.walk_mapped-walked.ensures.beyond in
    ask-done c.args.sheet.now _ _ _ _ _ ok _ _ B (filled _ _ _ (omega (arith, ask-works c.args.sheet.now _ _ _ _ _ ok, B.long)) (c.fill.ensures.after (λ y e. e))) st _ _ made total text

pub returns-in-Err : goal.returns-in-Err
returns-in-Err c =
    let ok = none (goal.at.returns-in-Err c).In_ok-invalid in
    let (made, A) = c.in-Err.ensures.came in
    let B = c.walk_mapped-walked.ensures.beyond in
    ask-refused c.args.sheet.now _ _ _ _ _ ok _ _ B (filled _ _ _ (omega (arith, ask-works c.args.sheet.now _ _ _ _ _ ok, B.long)) (c.fill.ensures.after (λ y e. e))) _ _ _ made A
    (filled _ _ _ (omega (arith, (ask-allowed c.args.sheet.now _ _ _ _ _ ok).answers, A.long)) (c.fill-in-Err.ensures.after (λ y e. e)))
