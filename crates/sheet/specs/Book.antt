-- The road book: the stages of a map in slices, and where those of each place begin.
use Rattle.std.specs.Prelude.{ℕ, ◌≤◌, ◌<◌, ◌≡◌, List, length, get_or}
use Rattle.paper.specs.declared.Counts.{Counts}
use Rattle.paper.specs.Map.{Map}
use Rattle.paper.specs.Stage.{stages_below}
use Rattle.paper.specs.Slice.{Untouched}

-- the first n words are f 0, f 1 and so on
pub record Holds (n : ℕ) (f : ℕ → ℕ) (l : List ℕ) : Type 0 where
  pub long : n ≤ length l
  pub each : (i : ℕ) → i < n → get_or l i 0 ≡ f i

-- word u of first is where the stages that leave u begin; the others hold the head and the length of each stage
pub record Leads (m : Map) (first heads lengths : List ℕ) : Type 0 where
  pub begins : Holds m.places (λ u. stages_below m u m.stages) first
  pub to : Holds m.stages m.head heads
  pub long : Holds m.stages m.furlongs lengths

-- and one more holds the tails
pub record Book (m : Map) (first tails heads lengths : List ℕ) : Type 0 where
  pub leads : Leads m first heads lengths
  pub from : Holds m.stages m.tail tails

-- the slices have a word for each place, and for each stage
pub record Roomy (c : Counts) (first tails heads lengths : List ℕ) : Type 0 where
  pub places : c.places ≤ length first
  pub tail : c.stages ≤ length tails
  pub head : c.stages ≤ length heads
  pub furlongs : c.stages ≤ length lengths

-- words past those that the book takes are untouched
pub record Past (c : Counts) (first tails heads lengths first' tails' heads' lengths' : List ℕ) : Type 0 where
  pub places : Untouched c.places first first'
  pub tail : Untouched c.stages tails tails'
  pub head : Untouched c.stages heads heads'
  pub furlongs : Untouched c.stages lengths lengths'

-- b parts the first n tails, which ascend: those before b are below u, the others not
pub record Begins (tails : List ℕ) (n u b : ℕ) : Type 0 where
  pub most : b ≤ n
  pub low : (i : ℕ) → i < b → get_or tails i 0 < u
  pub high : (i : ℕ) → b ≤ i → i < n → u ≤ get_or tails i 0

-- the first n tails ascend
abbrev pub Ascending : List ℕ → ℕ → Type 0
Ascending tails n = (i j : ℕ) → i < j → j < n → get_or tails i 0 ≤ get_or tails j 0
