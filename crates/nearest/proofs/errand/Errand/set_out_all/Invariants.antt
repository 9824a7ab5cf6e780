-- `Errand::set_out_all` meets its contract.
use Prim.Native.Nat.{◌-◌, ◌*◌, ◌≤◌}
use Rattle.paper.specs.Sizes.{slot_words}
use Rattle.nearest.specs.Working.{Beyond}
use Rattle.nearest.specs.Errands.{offices, ground_of, asked}
use Rattle.nearest.proofs.Begun.{Prefix}
use Rattle.nearest.proofs.errand.Errand.set_out_all.Given as goal

abbrev pub invariant-loop-i : goal.invariant-loop-i
invariant-loop-i l = (l.i ≤ l.n) × Beyond (slot_words * offices l.self) l.initial.working l.working × Prefix (ground_of l.self) (asked l.self) l.i l.working

abbrev pub decreases-loop-i : goal.decreases-loop-i
decreases-loop-i l = l.n - l.i
