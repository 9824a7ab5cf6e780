-- What one column of the check comes to.
use Rattle.std.specs.Prelude.{ℕ, ◌+◌, ◌<◌, min, ◌≡◌, List, get_or, Option, Result, Ok, Err}
use Rattle.paper.specs.declared.refusal.Refusal.{Refusal}
use Rattle.paper.specs.declared.refusal.Refusal.TheVariants.{CutOff}
use Rattle.paper.specs.Map.{Map}
use Rattle.paper.specs.Sheet.{map_of}
use Rattle.paper.specs.Road.{Road, IsD}
use Rattle.paper.specs.Verdict.{fault}
use Rattle.sheet.specs.declared.ground.Chart.{Chart}
use Rattle.truth.specs.declared.pairs.Fault.{Fault}
use Rattle.truth.specs.Table.{marked_below}
use Rattle.truth.specs.Faults.{Looked, none_below, found_below}
use Rattle.truth.specs.Pairs.{by_column, fault_by_chart}

-- the column holds the road distances to v, and its pairs with the places below `below` are gone through as far as the first that is faulty, and mark their
-- blocks, on the ground g
pub record JudgedColumn (m g : Map) (n v below : ℕ) (found : Option (Fault Refusal)) (marks column marks' : List ℕ) : Type 0 where
  pub near : (u : ℕ) → u < n → IsD m u v (get_or column u 0)
  pub looked : Looked (λ u. fault m (by_column column) u v) (none_below below) (found_below below found)
  pub marked : marks' ≡ marked_below g v (min ((found_below below found).place + 1) below) marks

-- judged, or some place has no road to v
abbrev pub ColumnIs : Map → Map → ℕ → ℕ → ℕ → List ℕ → List ℕ → List ℕ → Result (Option (Fault Refusal)) Refusal → Type 0
ColumnIs m g n v below marks column marks' (Ok found) = JudgedColumn m g n v below found marks column marks'
ColumnIs m g n v below marks column marks' (Err r) = (r ≡ CutOff) × ((u : ℕ) × (u < n) × ((l : ℕ) → Road m v u l → ⊥))

-- what the column, whatever it holds, comes to by the chart: its pairs are gone through as far as the first that is faulty, and mark their blocks; or 11 is due
abbrev pub ColumnByChart : Chart → ℕ → ℕ → List ℕ → List ℕ → List ℕ → Result (Option (Fault Refusal)) Refusal → Type 0
ColumnByChart c v below marks column marks' (Ok found) =
    Looked (λ u. fault_by_chart c column u v) (none_below below) (found_below below found)
    × (marks' ≡ marked_below (map_of c.ground.bytes.now) v (min ((found_below below found).place + 1) below) marks)
ColumnByChart c v below marks column marks' (Err r) = r ≡ CutOff
