-- `sheet::blocks::blocks_hold` meets its contract. The invariant is `Blocked`: the first i blocks hold and ascend.
use Prim.Native.Nat.{◌-◌, ◌≤◌}
use Rattle.paper.specs.Sheet.{map_of}
use Rattle.sheet.proofs.Blocked.{Blocked}
use Rattle.sheet.proofs.blocks.blocks_hold.Given as goal

abbrev pub invariant-loop-i : goal.invariant-loop-i
invariant-loop-i l = (l.i ≤ l.i-end) × Blocked (map_of l.parts.bytes.now) l.i l.from

abbrev pub decreases-loop-i : goal.decreases-loop-i
decreases-loop-i l = l.i-end - l.i
