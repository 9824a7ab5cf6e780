-- The chains once the first i stages are in: the invariant of the loop in `chain`.
use mathlib.Core.List.{List}
use Prim.Native.Nat.{ℕ, ◌≤◌}
use lib.ListN.{length, get_or}
use Rattle.paper.specs.Slice.{Untouched}
use Rattle.roads.specs.Chain.{Starts, GoesOn, Chainable}

-- last₀ and previous₀ are the slices that `chain` is lent
pub record Linked (heads : List ℕ) (n i : ℕ) (last₀ previous₀ last previous : List ℕ) : Type 0 where
  pub fit : Chainable heads n last previous
  pub upto : i ≤ length heads
  pub starts : Starts (λ k. get_or heads k 0) n i last
  pub goes : GoesOn (λ k. get_or heads k 0) i previous
  pub last_past : Untouched n last₀ last
  pub previous_past : Untouched (length heads) previous₀ previous
