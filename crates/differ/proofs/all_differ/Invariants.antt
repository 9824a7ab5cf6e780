-- `differ::all_differ` meets its contract. The invariant: the words before i differ, and hang in the tree.
use mathlib.Core.Path.{◌≡◌}
use mathlib.Core.Bool.{true}
use Rattle.paper.specs.Test.{apart}
use Rattle.differ.specs.Tree.{same, Hung}
use Rattle.differ.proofs.all_differ.Given as goal

abbrev pub invariant-loop-i : goal.invariant-loop-i
invariant-loop-i l = Hung l.words l.i l.kids × (apart l.i (same l.words) ≡ true)
