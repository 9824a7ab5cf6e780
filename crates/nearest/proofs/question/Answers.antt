-- `nearest::question` meets its contract.
use mathlib.Core.Path.{◌≡◌, subst, ◌∙◌}
use Rattle.std.proofs.lemmas.Result.{err_from_is_err_and}
use Rattle.paper.specs.Layout.{Bytes}
use Rattle.paper.specs.Reply.{reply}
use Rattle.nearest.specs.Question.{replied}
use Rattle.nearest.proofs.Asked.{laid_reply, laid_refused, lists_nearest, refines_thriftily}
use Rattle.nearest.proofs.question.Goals.{After-ask, After-from_residual}
use Rattle.nearest.proofs.question.Goals as goal

refused : (c : After-from_residual) → replied c.from_residual.result c.args.answer.now c.args.working.now ≡ reply c.args.sheet.now c.args.q c.args.k c.args.direction c.args.answer.now c.args.working.now
refused c =
    let p = err_from_is_err_and c.from_residual.result c.from_residual.ensures.1 in
    rw (p.1, p.2) (laid_refused _ c.args.q c.args.k c.args.direction _ _ _ c.in_err-sheet.ensures.counts)

asked : (c : After-ask) → replied c.ask.result c.ask.new.answer c.ask.new.working ≡ reply c.args.sheet.now c.args.q c.args.k c.args.direction c.args.answer.now c.args.working.now
asked c = c.ask.ensures ∙ laid_reply _ _ _ _ c.args.q c.args.k c.args.direction _ _ c.in_ok-sheet.ensures.counts c.in_ok-sheet.ensures.parts.0 c.in_ok-sheet.ensures.parts.1

pub returns-in_err-sheet : goal.returns-in_err-sheet
returns-in_err-sheet c =
    let at = goal.at.returns-in_err-sheet c in
    let bytes : Bytes c.args.sheet.now = λ i p. (c.type_inv.sheet i).fits in
    let rules = refused at.After-from_residual in
    record { rules = rules; nearest = lists_nearest _ _ _ _ _ _ bytes _ rules; thrifty = refines_thriftily _ _ _ _ _ _ bytes _ rules }

pub returns : goal.returns
returns c =
    let at = goal.at.returns c in
    let bytes = subst Bytes c.in_ok-sheet.ensures.parts.0 c.in_ok-sheet.sheet.map.fits in
    let rules = asked at.After-ask in
    record { rules = rules; nearest = lists_nearest _ _ _ _ _ _ bytes _ rules; thrifty = refines_thriftily _ _ _ _ _ _ bytes _ rules }
