-- `Roads::spread` meets its contract. The invariant: what `spread` ensures, with j for 0. The measure is j, since a chain goes down.
use Prim.Native.Nat.{ℕ, ◌≤◌}
use lib.ListN.{length}
use Rattle.paper.specs.Map.{Map}
use Rattle.roads.specs.Chain.{GoesOn}
use Rattle.roads.specs.Towards.{Lists}
use Rattle.roads.specs.Search.{After, Visit}
use Rattle.roads.proofs.roads.Roads.spread.Given as goal

abbrev pub invariant-loop-j : goal.invariant-loop-j
invariant-loop-j l = let r = l.self in
    (l.j ≤ length r.tails.now) × After r.places l.d.0 l.initial.column l.initial.words l.d.0 l.column l.words
    × ((m : Map) (v p : ℕ) → Lists m r.tails.now r.lengths.now r.places → GoesOn m.head m.stages r.previous.now → Visit m r.places v l.d.0 p l.from l.initial.column l.initial.words → Visit m r.places v l.d.0 p l.j l.column l.words)

abbrev pub decreases-loop-j : goal.decreases-loop-j
decreases-loop-j l = l.j
