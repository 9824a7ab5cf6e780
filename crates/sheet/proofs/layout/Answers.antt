-- `sheet::layout` meets its contract: the number of the sections, or of what the records come to; where nothing is due, the map and the list are there.
use mathlib.Core.List.{List}
use mathlib.Core.Path.{◌≡◌, sym, subst}
use Prim.Native.Nat.{ℕ}
use native.Mathlib.Omega.{arith}
use Rattle.std.proofs.lemmas.Result.{err_from_is_err_and}
use Rattle.paper.specs.Layout.{layout}
use Rattle.sheet.specs.Ground.{Roll}
use Rattle.sheet.specs.Laid.{counts_of, Sectioned}
use Rattle.sheet.proofs.Passes.{sectioned_by, refused_early}
use Rattle.sheet.proofs.Room.{room, parted, offices_end, laid_counts}
use Rattle.sheet.proofs.Grounds.{rest_is, laid_mapped, laid_roll}
use Rattle.sheet.proofs.layout.Goals.{In_ok-counts, In_ok-records}
use Rattle.sheet.proofs.layout.Goals as goal

-- the sections are whole
whole : (c : In_ok-counts) → Sectioned c.args.sheet.now c.in_ok-counts.counts
whole c = sectioned_by _ _ c.in_ok-counts.ensures

-- nothing is due
due : (c : In_ok-records) → (layout c.args.sheet.now ≡ 0) × (c.in_ok-counts.counts ≡ counts_of c.args.sheet.now)
due c = laid_counts _ _ c.in_ok-records.ensures

pub returns-in_err-counts-clause-counts : goal.returns-in_err-counts-clause-counts
returns-in_err-counts-clause-counts c = let p = err_from_is_err_and c.from_residual.result c.from_residual.ensures.1 in rw (p.1, p.2) (refused_early _ _ c.in_err-counts.ensures)

pub list_at-requires : goal.list_at-requires
list_at-requires c = (room _ _ (parted _ _ (whole (goal.at.list_at-requires c).In_ok-counts))).within

pub slice_bounds-result-count : goal.slice_bounds-result-count
slice_bounds-result-count c = omega (arith, c.list_at.ensures, offices_end _ _ (whole (goal.at.slice_bounds-result-count c).In_ok-counts))

pub slice_bounds-result-start : goal.slice_bounds-result-start
slice_bounds-result-start c = omega (arith, c.list_at.ensures, offices_end _ _ (whole (goal.at.slice_bounds-result-start c).In_ok-counts))

pub invariant_of-result : goal.invariant_of-result
invariant_of-result c = let (h, e) = due (goal.at.invariant_of-result c).In_ok-records in record { fits = λ i p. (c.type_inv.sheet i).fits; keeps = laid_mapped _ _ h e }

pub invariant_of-result-2 : goal.invariant_of-result-2
invariant_of-result-2 c =
    let (h, e) = due (goal.at.invariant_of-result-2 c).In_ok-records in
    record { roll = subst (λ (l : List ℕ). Roll l c.in_ok-counts.counts.offices c.in_ok-counts.counts.places) (sym (rest_is _ _ _ c.list_at.ensures)) (laid_roll _ _ h e) }
