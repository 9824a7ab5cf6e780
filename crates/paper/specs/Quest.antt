-- What a question asks of a map.
use Rattle.std.specs.Prelude.{ℕ, Bool, true, false, eqb}
use Rattle.paper.specs.Sizes.{outwardly, inwardly}
use Rattle.paper.specs.Test.{either}
use Rattle.paper.specs.Map.{Offices}

-- how many offices there are, and for each where it stands, and from where to where its road runs
pub record Quest : Type 0 where
  pub count : ℕ
  pub stand : ℕ → ℕ
  pub from : ℕ → ℕ
  pub to : ℕ → ℕ

-- the number d names a direction
abbrev pub is_direction : ℕ → Bool
is_direction d = either (eqb d outwardly) (eqb d inwardly)

-- the first outward, and else the second
abbrev pub by_direction : ℕ → ℕ → ℕ → ℕ
by_direction d p r = elim (eqb d outwardly) [ true ↦ p | false ↦ r ]

-- a question about q in the direction d, over a list of offices: outward a road runs from q to the place of each, inward from there to q
abbrev pub directed : Offices → ℕ → ℕ → Quest
directed o q d = record { count = o.count; stand = o.stand; from = λ i. by_direction d q (o.stand i); to = λ i. by_direction d (o.stand i) q }

abbrev pub outward : Offices → ℕ → Quest
outward o q = directed o q outwardly

abbrev pub inward : Offices → ℕ → Quest
inward o q = directed o q inwardly
