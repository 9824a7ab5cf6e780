-- `sheet::book::starts` meets its contract. The invariant: the first u words part the tails, and those before i are below u.
use Prim.Native.Nat.{ℕ, ◌<◌, ◌≤◌}
use lib.ListN.{length, get_or}
use Rattle.sheet.specs.Book.{Begins}
use Rattle.sheet.proofs.book.starts.Given as goal

abbrev pub invariant-loop-u : goal.invariant-loop-u
invariant-loop-u l = (l.i ≤ length l.tails) × ((k : ℕ) → k < l.i → get_or l.tails k 0 < l.u) × ((v : ℕ) → v < l.u → Begins l.tails (length l.tails) v (get_or l.first v 0))
