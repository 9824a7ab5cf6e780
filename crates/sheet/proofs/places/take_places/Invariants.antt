-- `sheet::places::take_places` meets its contract. The invariant is `Placed`: the first i places hold, and their cells and numbers are taken.
use mathlib.Core.Path.{◌≡◌}
use Prim.Native.Nat.{◌-◌, ◌≤◌}
use lib.ListN.{length}
use Rattle.paper.specs.Sheet.{map_of}
use Rattle.sheet.proofs.Placed.{Placed}
use Rattle.sheet.proofs.places.take_places.Given as goal

abbrev pub invariant-loop-i : goal.invariant-loop-i
invariant-loop-i l = (l.i ≤ l.i-end) × (length l.cells ≡ length l.initial.cells) × (length l.numbers ≡ length l.initial.numbers) × Placed (map_of l.parts.bytes.now) l.i l.cells l.numbers

abbrev pub decreases-loop-i : goal.decreases-loop-i
decreases-loop-i l = l.i-end - l.i
