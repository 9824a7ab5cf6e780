-- What finds the road distances of a map, and a map that was surveyed: its ground, its book and its roads.
use Rattle.std.specs.Prelude.{ℕ, ◌<◌, ◌≡◌, Bool, true, false, List, length, get_or}
use Rattle.paper.specs.Map.{Map}
use Rattle.paper.specs.Road.{Road, IsD}
use Rattle.sheet.specs.Ground.{Charted}
use Rattle.sheet.specs.Charts.{OnChart}
use Rattle.roads.specs.Chain.{Starts, GoesOn}
use Rattle.roads.specs.Towards.{Ready, Entered, Lists}
use Rattle.roads.specs.declared.roads.Roads as code
use Rattle.truth.specs.declared.known.Survey.{Survey}

-- the stages of a map of n places in slices, and the chain of those into each place
pub record Roads (m : Map) (n : ℕ) (tails lengths last previous : List ℕ) : Type 0 where
  pub ready : Ready tails lengths previous n
  pub entered : Entered last n (length tails)
  pub lists : Lists m tails lengths n
  pub starts : Starts m.head n m.stages last
  pub goes : GoesOn m.head m.stages previous

-- the same of those that the code has
abbrev pub OnRoads : code.Roads → Map → Type 0
OnRoads r m = Roads m r.places r.tails.now r.lengths.now r.last.now r.previous.now

-- the map m has the ground g and the book, and the slices find its roads
pub record Surveyed (g first tails heads lengths last previous : List ℕ) (m : Map) : Type 0 where
  pub charted : Charted g first heads lengths m
  pub roads : Roads m m.places tails lengths last previous

-- the map m is the survey's
pub record OnSurvey (s : Survey) (m : Map) : Type 0 where
  pub charted : OnChart s.chart m
  pub roads : OnRoads s.roads m

-- some map is the survey's: that a column holds road distances is said of such a map, and without one would say nothing
pub record SomeSurvey (s : Survey) : Type 0 where
  pub map : Map
  pub on : OnSurvey s map

-- r is whether each of the n places has a road to v; if so, the column holds the road distances to v
pub record Reached (m : Map) (n v : ℕ) (column : List ℕ) (r : Bool) : Type 0 where
  pub all : r ≡ true → (u : ℕ) → u < n → IsD m u v (get_or column u 0)
  pub not_all : r ≡ false → (u : ℕ) × (u < n) × ((l : ℕ) → Road m v u l → ⊥)
