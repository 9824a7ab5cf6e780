-- The stages into each place as a chain, which runs from the last of them to the first.
use Rattle.std.specs.Prelude.{◌≡◌, List, ℕ, ◌+◌, ◌≤◌, ◌<◌, length, get_or}
use Rattle.paper.specs.Sizes.{most_stages}
use Rattle.paper.specs.Slice.{Untouched}

-- b is one more than the number of the last stage into w among the first k, or 0 where there is none
pub record Latest (head : ℕ → ℕ) (w k b : ℕ) : Type 0 where
  pub within : b ≤ k
  pub into : (i : ℕ) → b ≡ i + 1 → head i ≡ w
  pub none : (i : ℕ) → b ≤ i → i < k → head i ≡ w → ⊥

-- where the chain of each of the n places starts, and how it goes on at each of the k stages
abbrev pub Starts : (ℕ → ℕ) → ℕ → ℕ → List ℕ → Type 0
Starts head n k last = (w : ℕ) → w < n → Latest head w k (get_or last w 0)

abbrev pub GoesOn : (ℕ → ℕ) → ℕ → List ℕ → Type 0
GoesOn head k previous = (i : ℕ) → i < k → Latest head (head i) i (get_or previous i 0)

-- what `chain` needs
pub record Chainable (heads : List ℕ) (n : ℕ) (last previous : List ℕ) : Type 0 where
  pub few : length heads ≤ most_stages
  pub places : n ≤ length last
  pub stages : length heads ≤ length previous
  pub head_in : (i : ℕ) → i < length heads → get_or heads i 0 < n

-- what `chain` leaves: the chains, and the words past them as they were
pub record Chained (heads : List ℕ) (n : ℕ) (last previous last' previous' : List ℕ) : Type 0 where
  pub starts : Starts (λ i. get_or heads i 0) n (length heads) last'
  pub goes : GoesOn (λ i. get_or heads i 0) (length heads) previous'
  pub last_past : Untouched n last last'
  pub previous_past : Untouched (length heads) previous previous'
