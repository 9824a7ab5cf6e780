-- `truth::columns::judge_column` meets its contract: the roads to v are found, or one is missing; then the pairs of v are looked through.
use mathlib.Core.Path.{refl}
use Rattle.truth.proofs.columns.judge_column.Goals as goal

pub returns-then-not-is_reached : goal.returns-then-not-is_reached
returns-then-not-is_reached c = record { within = tt; column = λ m S. (refl, (c.is_reached.ensures m S.roads).not_all c.if-not-is_reached.true); by_chart = refl }

pub returns : goal.returns
returns c = record {
  within = c.column_fault.ensures.within;
  column = λ m S. record { near = (c.is_reached.ensures m S.roads).all c.if-not-is_reached.false; looked = c.column_fault.ensures.looked m S.charted; marked = c.column_fault.ensures.marks_after };
  by_chart = (c.column_fault.ensures.by_chart, c.column_fault.ensures.marks_after);
}
