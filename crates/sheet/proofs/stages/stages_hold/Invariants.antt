-- `sheet::stages::stages_hold` meets its contract. The invariant is `Staged`: the first i stages hold, ascend and are counted.
use mathlib.Core.Path.{◌≡◌}
use Prim.Native.Nat.{◌-◌, ◌≤◌}
use lib.ListN.{length}
use Rattle.paper.specs.Sheet.{map_of}
use Rattle.sheet.proofs.Staged.{Staged}
use Rattle.sheet.proofs.stages.stages_hold.Given as goal

abbrev pub invariant-loop-i : goal.invariant-loop-i
invariant-loop-i l = (l.i ≤ l.i-end) × (length l.leaving ≡ length l.initial.leaving) × Staged (map_of l.parts.bytes.now) l.i l.from l.initial.leaving l.leaving

abbrev pub decreases-loop-i : goal.decreases-loop-i
decreases-loop-i l = l.i-end - l.i
