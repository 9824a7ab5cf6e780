-- `nearest::tree::take_leader` meets its contract.
use mathlib.Core.Path.{refl, ap}
use Prim.Native.Nat.{ℕ}
use native.Mathlib.Omega.{arith}
use lib.Dec.{ltb}
use Rattle.mintree.proofs.Parts.{part_of, played_part, changed_back}
use Rattle.nearest.proofs.Hold.{changed_beyond}
use Rattle.nearest.proofs.Take.{take_inside, take_high, led}
use Rattle.nearest.proofs.tree.take_leader.Goals as goal

pub trail_at-trail-requires : goal.trail_at-trail-requires
trail_at-trail-requires c = omega (arith, take_inside c.requires.waiting _ c.top-least.ensures, c.requires.waiting.shown.long)

pub change-requires-clause-i_lt_n : goal.change-requires-clause-i_lt_n
change-requires-clause-i_lt_n c = take_inside c.requires.waiting _ c.top-least.ensures

pub change-requires-clause-played : goal.change-requires-clause-played
change-requires-clause-played c = let P = c.requires.waiting.shown.played in played_part (part_of P.room) P

pub key-requires : goal.key-requires
key-requires c = (take_high c.requires.waiting _ c.top-least.ensures _ c.trail_at-trail.ensures.0, omega arith)

pub returns-clause-beyond : goal.returns-clause-beyond
returns-clause-beyond c =
    let i = take_inside c.requires.waiting _ c.top-least.ensures in
    changed_beyond _ _ _ _ _ i (changed_back c.requires.waiting.shown.played.room c.change.auto.words _ _ i c.change.ensures.same)

pub returns-clause-by_index : goal.returns-clause-by_index
returns-clause-by_index c = λ places ss S. led c.requires.waiting _ c.top-least.ensures places ss S _ _ c.change.auto.words c.change.ensures.played_2 c.top-rest.ensures _ refl c.trail_at-trail.ensures.0 c.trail_at-trail.ensures.1
    (ap (λ (k : ℕ). ltb k c.top-rest.result) c.key.ensures) c.change.ensures.same
