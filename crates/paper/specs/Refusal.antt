-- The code's refusals by the paper's numbers, and what the code serves beside what the definitions serve.
use Rattle.std.specs.Prelude.{ℕ, Result, Ok, Err}
use Rattle.paper.specs.Served.{Served, refused, served}
use Rattle.paper.specs.declared.refusal.Refusal.{Refusal}
use Rattle.paper.specs.declared.refusal.Refusal.TheVariants.{NotWhole, BadCount, BadPlaces, BadStages, BadBlocks, BadOffices, BadQuestion, BadK, SliceShort, TableShort, CutOff, NoBlock, WrongColour, WrongRatio, UselessBlock, TooManyStages, NoBlockOnWay, EmptyInterval, TooLarge}

abbrev pub number_of : Refusal → ℕ
number_of NotWhole = 1
number_of BadCount = 2
number_of BadPlaces = 3
number_of BadStages = 4
number_of BadBlocks = 5
number_of BadOffices = 6
number_of BadQuestion = 7
number_of BadK = 8
number_of SliceShort = 9
number_of TableShort = 10
number_of CutOff = 11
number_of NoBlock = 12
number_of WrongColour = 13
number_of WrongRatio = 14
number_of UselessBlock = 15
number_of TooManyStages = 16
number_of NoBlockOnWay = 17
number_of EmptyInterval = 18
number_of TooLarge = 20

-- the number of an outcome whose refusal r has the number `value r`: 0 where nothing is refused
abbrev pub numbered : {A N : Type 0} → (N → ℕ) → Result A N → ℕ
numbered value (Ok a) = 0
numbered value (Err r) = value r

-- the same of the code's own refusals
abbrev pub number : {A : Type 0} → Result A Refusal → ℕ
number = numbered number_of

-- an outcome as the definitions have it, and one whose value is f of what the code serves
abbrev pub came : {A : Type 0} → Result A Refusal → Served A
came (Ok a) = served a
came (Err r) = refused (number_of r)

abbrev pub served_as : {A B : Type 0} → (A → B) → Result A Refusal → Served B
served_as f (Ok a) = served (f a)
served_as f (Err r) = refused (number_of r)
