-- `truth::columns::columns` meets its contract. The invariant is `FillingIn`: the first v columns are judged, and stand in the table.
use mathlib.Core.Path.{sym, ap, ◌∙◌}
use native.Mathlib.Omega.{arith}
use lib.Seq.{length-take-le}
use Rattle.paper.specs.Refusal.{number_of}
use Rattle.truth.proofs.Scans.{check_taken}
use Rattle.truth.proofs.Filling.{place_in}
use Rattle.truth.proofs.Tabled.{filling_in_none, filling_in_room, filling_in_long, filling_in_more, filling_in_cut, filling_in_all}
use Rattle.truth.proofs.columns.columns.Goals as goal

pub loop-v-init : goal.loop-v-init
loop-v-init g c = filling_in_none _ _ _ _ c.requires.whole

pub judge_column-requires : goal.judge_column-requires
judge_column-requires g c =
    let R = filling_in_room _ _ _ c.requires.room c.loop-v.invariant in
    (omega (arith, c.below-end.ensures, place_in (λ u. 0) _ _ c.loop-v.invariant.filling.fault_in), c.loop-v-test.true, R.column_room, R.marks_room)

pub clear-requires : goal.clear-requires
clear-requires g c = filling_in_long _ _ _ c.requires.room c.loop-v.invariant g.met.T.Table.kept

pub returns-in-Err : goal.returns-in-Err
returns-in-Err g c m S =
    let (is, cut) = c.in-Err.ensures.column m S in
    rw is (filling_in_cut _ _ _ c.requires.room c.loop-v.invariant _ c.loop-v-test.true (λ m S. (c.in-Err.ensures.column m S).1) c.clear.ensures m S)

pub store_column-requires : goal.store_column-requires
store_column-requires g c =
    let R = filling_in_room _ _ _ c.requires.room c.loop-v.invariant in
    (c.loop-v-test.true, R.places, filling_in_long _ _ _ c.requires.room c.loop-v.invariant g.met.T.Table.kept, omega (arith, R.column_room, c.judge_column.auto.column))

pub loop-v-preserved : goal.loop-v-preserved
loop-v-preserved g c =
    let below = c.below-end.ensures in
    rw c.or-fault.ensures (filling_in_more _ _ _ c.requires.room c.loop-v.invariant _ _ _ _ c.loop-v-test.true (rw below at c.in-Ok.ensures.within) (rw below at c.in-Ok.ensures.column) c.store_column.ensures c.judge_column.auto.column c.judge_column.auto.marks)

pub slice_bounds-marks-end : goal.slice_bounds-marks-end
slice_bounds-marks-end g c = (filling_in_room _ _ _ c.requires.room c.loop-v.invariant).marks_room

pub slice_bounds-final_number-end : goal.slice_bounds-final_number-end
slice_bounds-final_number-end g c = sym (length-take-le _ _ (filling_in_room _ _ _ c.requires.room c.loop-v.invariant).marks_room)

pub returns : goal.returns
returns g c =
    let R = filling_in_room _ _ _ c.requires.room c.loop-v.invariant in
    filling_in_all _ _ _ c.requires.room c.loop-v.invariant _ (c.final_number.ensures number_of (λ n e. ap number_of e) _ c.loop-v.invariant.filling.fault_in ∙ check_taken _ _ _ _ R.marks_room) c.loop-v-test.false
