-- `text::put_list` meets its contract. The invariant: the lines before i are written. The measure is how many are left.
use mathlib.Core.Path.{◌≡◌}
use Prim.Native.Nat.{◌-◌, ◌≤◌}
use lib.ListN.{length}
use Rattle.paper.specs.Printed.{list_text}
use Rattle.text.proofs.Put.{Going}
use Rattle.text.proofs.Lines.{lines_from}
use Rattle.text.proofs.put_list.Given as goal

abbrev pub invariant-loop-i : goal.invariant-loop-i
invariant-loop-i l = Going l.at (list_text l.k l.answer) (lines_from l.answer l.i l.k) l.initial.out l.out l.next × (l.i ≤ l.k) × (length l.out ≡ length l.initial.out)

abbrev pub decreases-loop-i : goal.decreases-loop-i
decreases-loop-i l = l.k - l.i
