-- `text::width` meets its contract. The invariant: what is counted and the digits of `rest` are one more than the digits of n. The measure is `rest`.
use Prim.Native.Nat.{◌≤◌}
use Rattle.text.proofs.Fill.{Counted}
use Rattle.text.proofs.width.Given as goal

abbrev pub invariant-loop-rest : goal.invariant-loop-rest
invariant-loop-rest l = Counted l.n l.rest l.count × (l.rest ≤ l.n)

abbrev pub decreases-loop-rest : goal.decreases-loop-rest
decreases-loop-rest l = l.rest
