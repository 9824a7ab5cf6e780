-- `sheet::book::column` meets its contract. The invariant: the first i words are read.
use mathlib.Core.Path.{◌≡◌}
use Prim.Native.Nat.{ℕ, ◌+◌, ◌*◌, ◌<◌}
use lib.ListN.{get_or}
use Rattle.paper.specs.Sizes.{stage_words}
use Rattle.paper.specs.Sheet.{word}
use Rattle.sheet.proofs.book.column.Given as goal

abbrev pub invariant-loop-i : goal.invariant-loop-i
invariant-loop-i l = (k : ℕ) → k < l.i → get_or l.out k 0 ≡ word l.sheet (l.base + stage_words * k)
