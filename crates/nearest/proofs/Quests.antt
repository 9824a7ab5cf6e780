-- The roads of a quest over a list run between places.
use Prim.Native.Nat.{ℕ, ◌<◌}
use mathlib.Core.List.{List}
use Rattle.paper.specs.declared.Quest as asked
use Rattle.paper.proofs.Direction.{by_within}
use Rattle.sheet.specs.Ground.{Roll}
use Rattle.sheet.proofs.Grounds.{roll_stand}
use Rattle.nearest.specs.Question.{quest_on}

module _ {l : List ℕ} {n places : ℕ} (R : Roll l n places) (x : asked.Quest) (here : x.place < places) (i : ℕ) (p : i < n) where
  pub quest_from : (quest_on l x).from i < places
  quest_from = by_within x.direction _ _ here (roll_stand R i p)

  pub quest_to : (quest_on l x).to i < places
  quest_to = by_within x.direction _ _ (roll_stand R i p) here
