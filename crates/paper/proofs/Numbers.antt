-- No refusal has the number 0, and no two have the same.
use Prim.Native.Nat.{ℕ}
use mathlib.Core.Path.{◌≡◌, sym, ap, ◌∙◌}
use mathlib.Core.List.{List, [], ◌∷◌}
use lib.ListN.{get_or}
use Rattle.std.proofs.Common.{rules, ◌<◌}
use Rattle.paper.specs.declared.refusal.Refusal.{Refusal}
use Rattle.paper.specs.declared.refusal.Refusal.TheVariants.{NotWhole, BadCount, BadPlaces, BadStages, BadBlocks, BadOffices, BadQuestion, BadK, SliceShort, TableShort, CutOff, NoBlock, WrongColour, WrongRatio, UselessBlock, TooManyStages, NoBlockOnWay, EmptyInterval, TooLarge}
use Rattle.paper.specs.Refusal.{number_of}

pub number_some : (r : Refusal) → 0 < number_of r
number_some r = search rules

-- the refusals by number, with 0 and 19 filled up
abbrev all : List Refusal
all = NotWhole ∷ NotWhole ∷ BadCount ∷ BadPlaces ∷ BadStages ∷ BadBlocks ∷ BadOffices ∷ BadQuestion ∷ BadK ∷ SliceShort ∷ TableShort ∷ CutOff ∷ NoBlock ∷ WrongColour ∷ WrongRatio ∷ UselessBlock ∷ TooManyStages ∷ NoBlockOnWay ∷ EmptyInterval ∷ NotWhole ∷ TooLarge ∷ []

back : (r : Refusal) → get_or all (number_of r) NotWhole ≡ r
back r = search rules

pub number_one : (r r' : Refusal) → number_of r ≡ number_of r' → r ≡ r'
number_one r r' e = sym (back r) ∙ ap (λ (n : ℕ). get_or all n NotWhole) e ∙ back r'
