-- `roads::start` meets its contract. The invariant: the first u words have no length.
use mathlib.Core.Path.{◌≡◌}
use Prim.Native.Nat.{ℕ, ◌<◌}
use lib.ListN.{get_or}
use Rattle.roads.specs.Towards.{far}
use Rattle.roads.specs.Search.{packed}
use Rattle.roads.proofs.start.Given as goal

abbrev pub invariant-loop-u : goal.invariant-loop-u
invariant-loop-u l = (k : ℕ) → k < l.u → get_or l.word-items k 0 ≡ packed far k
