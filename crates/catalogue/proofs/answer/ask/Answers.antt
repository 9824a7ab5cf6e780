-- `catalogue::answer::ask` meets its contract.
use native.Mathlib.Omega.{arith}
use mathlib.Core.Path.{sym, ◌∙◌}
use Rattle.std.proofs.Common.{rules}
use Rattle.std.proofs.lemmas.List.{length-take-le}
use Rattle.std.proofs.lemmas.Result.{err_from_is_err_and}
use Rattle.paper.specs.Layout.{Bytes}
use Rattle.paper.specs.Sheet.{map_of, offices_in}
use Rattle.paper.specs.Quest.{directed}
use Rattle.paper.specs.Host.{HostValidOn}
use Rattle.paper.proofs.Cleared.{cleared-same}
use Rattle.paper.proofs.Fair.{listing_count}
use Rattle.sheet.proofs.Grounds.{roll_count}
use Rattle.paper.proofs.Cleared.{filled}
use Rattle.catalogue.proofs.Replied.{Lent, host-lent, host_refused_by, host-done, host-refused}
use Rattle.catalogue.proofs.answer.ask.Goals.{In_ok-invalid}
use Rattle.catalogue.proofs.answer.ask.Goals as goal

-- the bytes that are lent
answers : (c : In_ok-invalid) → Bytes c.args.answer.now
answers c i p = search rules

works : (c : In_ok-invalid) → Bytes c.args.working.now
works c i p = search rules

-- a question that is valid: what the walk needs
valid : (c : In_ok-invalid) → let a = c.args in
    HostValidOn (map_of a.sheet.now.map.bytes.now) (offices_in a.sheet.now.list.now) a.q a.k a.direction a.answer.now a.working.now a.counts.now
valid c = let s = c.args.sheet.now in sym (c.in_ok-invalid.ensures _ _ (sym s.map.keeps.parts.places) (sym (roll_count s.roll)))

-- what is lent to a valid question
lent : (c : In_ok-invalid) → let a = c.args in
    Lent (map_of a.sheet.now.map.bytes.now) (offices_in a.sheet.now.list.now) a.q a.k a.direction a.answer.now a.working.now a.counts.now (answers c) (works c) (valid c)
lent c = host-lent _ _ _ _ _ _ _ _ (answers c) (works c) (valid c)

pub returns-in_err-invalid : goal.returns-in_err-invalid
returns-in_err-invalid c =
    let p = err_from_is_err_and c.from_residual.result c.from_residual.ensures.1 in
    let s = c.args.sheet.now in
    rw (p.1, p.2) (host_refused_by _ _ _ _ _ _ _ _ (λ i p. search rules) (λ i p. search rules) _ (c.in_err-invalid.ensures _ _ (sym s.map.keeps.parts.places) (sym (roll_count s.roll))))

pub list_lines-walked-requires : goal.list_lines-walked-requires
list_lines-walked-requires c =
    let s = c.args.sheet.now in
    let L = lent (goal.at.list_lines-walked-requires c).In_ok-invalid in
    (omega (arith, L.place, s.map.keeps.parts.places), L.one, omega (arith, L.enough, roll_count s.roll), L.answers)

pub slice_bounds-fill-end : goal.slice_bounds-fill-end
slice_bounds-fill-end c = omega (arith, (lent (goal.at.slice_bounds-fill-end c).In_ok-invalid).works, roll_count c.args.sheet.now.roll)

pub slice_bounds-fill-end-2 : goal.slice_bounds-fill-end-2
slice_bounds-fill-end-2 c = sym (length-take-le _ _ (omega (arith, (lent (goal.at.slice_bounds-fill-end-2 c).In_ok-invalid).works, roll_count c.args.sheet.now.roll)))

pub slice_bounds-fill-end-in-Err : goal.slice_bounds-fill-end-in-Err
slice_bounds-fill-end-in-Err c = omega (arith, (lent (goal.at.slice_bounds-fill-end-in-Err c).In_ok-invalid).answers, c.in-Err.ensures.1.long)

pub slice_bounds-fill-end-in-Err-2 : goal.slice_bounds-fill-end-in-Err-2
slice_bounds-fill-end-in-Err-2 c = sym (length-take-le _ _ (omega (arith, (lent (goal.at.slice_bounds-fill-end-in-Err-2 c).In_ok-invalid).answers, c.in-Err.ensures.1.long)))

pub returns-in-Ok : goal.returns-in-Ok
returns-in-Ok c =
    let at = (goal.at.returns-in-Ok c).In_ok-invalid in
    let s = c.args.sheet.now in
    let L = lent at in
    let E = c.in-Ok.ensures in
    let zero = filled _ _ _ (omega (arith, L.works, roll_count s.roll)) (c.fill.ensures.after (λ y e. e)) in
    let size = listing_count (map_of s.map.bytes.now) (directed (offices_in s.list.now) c.args.q c.args.direction) c.args.k L.enough E.state E.ended in
    host-done _ _ _ _ _ _ _ _ (answers at) (works at) (valid at) _ (roll_count s.roll) _ zero E.state _ _ E.ended E.made size E.bytes

pub returns-in-Err : goal.returns-in-Err
returns-in-Err c =
    let at = (goal.at.returns-in-Err c).In_ok-invalid in
    let s = c.args.sheet.now in
    let L = lent at in
    let (ended, P) = c.in-Err.ensures in
    let zero = filled _ _ _ (omega (arith, L.works, roll_count s.roll)) (c.fill.ensures.after (λ y e. e)) in
    let none = filled _ _ _ (omega (arith, L.answers, P.long)) (c.fill-in-Err.ensures.after (λ y e. e)) in
    host-refused _ _ _ _ _ _ _ _ (answers at) (works at) (valid at) _ (roll_count s.roll) _ zero _ _ ended (none ∙ cleared-same _ _ _ P.long P.rest)
