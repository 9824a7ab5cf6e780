-- `sheet::sections::sections` meets its contract: what is known where each section is passed, then each way out.
use Prim.Native.Nat.{◌+◌, ◌*◌}
use native.Mathlib.Nat.{one-mul}
use native.Mathlib.Omega.{arith}
use Rattle.std.proofs.lemmas.Result.{err_from_is_err_and}
use Rattle.paper.specs.Sizes.{place_words, stage_words, block_words, office_words, most_places, most_stages, most_blocks, most_offices}
use Rattle.paper.specs.Layout.{ends_at}
use Rattle.paper.specs.Sheet.{stages_at, blocks_at, offices_at}
use Rattle.sheet.proofs.Counted.{from, Come, no_words, words, past, due_here, left_over, all_passed}
use Rattle.sheet.proofs.sections.sections.Goals.{In_ok-places, In_ok-stages, In_ok-blocks, In_ok-offices}
use Rattle.sheet.proofs.sections.sections.Goals as goal

-- nothing is due where one section is passed, two, three and all four
one : (c : In_ok-places) → let s = c.args.sheet.now in Come s (1 + place_words * c.in_ok-places.places) (stages_at s) (from s 3)
unfolding stages_at
one c = past 1 most_places place_words _ (words _ c.if-sheet-ne0.false) _ c.in_ok-places.ensures

two : (c : In_ok-stages) → let s = c.args.sheet.now in Come s ((1 + place_words * c.in_ok-places.places) + 1 + stage_words * c.in_ok-stages.stages) (blocks_at s) (from s 2)
unfolding blocks_at
two c = past 0 most_stages stage_words _ (past 1 most_places place_words _ (words _ c.if-sheet-ne0.false) _ c.in_ok-places.ensures) _ c.in_ok-stages.ensures

three : (c : In_ok-blocks) → let s = c.args.sheet.now in Come s (((1 + place_words * c.in_ok-places.places) + 1 + stage_words * c.in_ok-stages.stages) + 1 + block_words * c.in_ok-blocks.blocks) (offices_at s) (from s 1)
unfolding offices_at
three c = past 0 most_blocks block_words _ (past 0 most_stages stage_words _ (past 1 most_places place_words _ (words _ c.if-sheet-ne0.false) _ c.in_ok-places.ensures) _ c.in_ok-stages.ensures) _ c.in_ok-blocks.ensures

four : (c : In_ok-offices) → let s = c.args.sheet.now in Come s ((((1 + place_words * c.in_ok-places.places) + 1 + stage_words * c.in_ok-stages.stages) + 1 + block_words * c.in_ok-blocks.blocks) + 1 + c.in_ok-offices.offices) (ends_at s) (from s 0)
unfolding ends_at
four c = simp one-mul at (past 0 most_offices office_words _ (past 0 most_blocks block_words _ (past 0 most_stages stage_words _ (past 1 most_places place_words _ (words _ c.if-sheet-ne0.false) _ c.in_ok-places.ensures) _ c.in_ok-stages.ensures) _ c.in_ok-blocks.ensures) _ c.in_ok-offices.ensures)

pub returns-then-sheet-ne0 : goal.returns-then-sheet-ne0
returns-then-sheet-ne0 c = no_words _ c.if-sheet-ne0.true

pub returns-in_err-places : goal.returns-in_err-places
returns-in_err-places c = let p = err_from_is_err_and c.from_residual.result c.from_residual.ensures.1 in rw (p.1, p.2) (due_here 1 most_places place_words _ (words _ c.if-sheet-ne0.false) _ c.in_err-places.ensures)

pub overflow_mul-stages_at : goal.overflow_mul-stages_at
overflow_mul-stages_at c = omega (arith, one (goal.at.overflow_mul-stages_at c).In_ok-places)

pub overflow_add-stages_at : goal.overflow_add-stages_at
overflow_add-stages_at c = omega (arith, one (goal.at.overflow_add-stages_at c).In_ok-places)

pub returns-in_err-stages : goal.returns-in_err-stages
returns-in_err-stages c = let p = err_from_is_err_and c.from_residual-in_err-stages.result c.from_residual-in_err-stages.ensures.1 in rw (p.1, p.2) (due_here 0 most_stages stage_words _ (one (goal.at.returns-in_err-stages c).In_ok-places) _ c.in_err-stages.ensures)

pub overflow_add-blocks_at : goal.overflow_add-blocks_at
overflow_add-blocks_at c = omega (arith, two (goal.at.overflow_add-blocks_at c).In_ok-stages)

pub overflow_mul-blocks_at : goal.overflow_mul-blocks_at
overflow_mul-blocks_at c = omega (arith, two (goal.at.overflow_mul-blocks_at c).In_ok-stages)

pub overflow_add-blocks_at-2 : goal.overflow_add-blocks_at-2
overflow_add-blocks_at-2 c = omega (arith, two (goal.at.overflow_add-blocks_at-2 c).In_ok-stages)

pub returns-in_err-blocks : goal.returns-in_err-blocks
returns-in_err-blocks c = let p = err_from_is_err_and c.from_residual-in_err-blocks.result c.from_residual-in_err-blocks.ensures.1 in rw (p.1, p.2) (due_here 0 most_blocks block_words _ (two (goal.at.returns-in_err-blocks c).In_ok-stages) _ c.in_err-blocks.ensures)

pub overflow_add-offices_at : goal.overflow_add-offices_at
overflow_add-offices_at c = omega (arith, three (goal.at.overflow_add-offices_at c).In_ok-blocks)

pub overflow_mul-offices_at : goal.overflow_mul-offices_at
overflow_mul-offices_at c = omega (arith, three (goal.at.overflow_mul-offices_at c).In_ok-blocks)

pub overflow_add-offices_at-2 : goal.overflow_add-offices_at-2
overflow_add-offices_at-2 c = omega (arith, three (goal.at.overflow_add-offices_at-2 c).In_ok-blocks)

pub returns-in_err-offices : goal.returns-in_err-offices
returns-in_err-offices c = let p = err_from_is_err_and c.from_residual-in_err-offices.result c.from_residual-in_err-offices.ensures.1 in rw (p.1, p.2) (due_here 0 most_offices office_words _ (three (goal.at.returns-in_err-offices c).In_ok-blocks) _ c.in_err-offices.ensures)

pub overflow_add-offices_at-3 : goal.overflow_add-offices_at-3
overflow_add-offices_at-3 c = omega (arith, four (goal.at.overflow_add-offices_at-3 c).In_ok-offices)

pub overflow_add-offices_at-4 : goal.overflow_add-offices_at-4
overflow_add-offices_at-4 c = omega (arith, four (goal.at.overflow_add-offices_at-4 c).In_ok-offices)

pub returns-then-offices_at-offices : goal.returns-then-offices_at-offices
returns-then-offices_at-offices c = left_over (four (goal.at.returns-then-offices_at-offices c).In_ok-offices) c.if-offices_at-offices.true

pub returns : goal.returns
returns c = all_passed (one (goal.at.returns c).In_ok-places).at (two (goal.at.returns c).In_ok-stages).at (three (goal.at.returns c).In_ok-blocks).at (four (goal.at.returns c).In_ok-offices) c.if-offices_at-offices.false
