-- The least of n words in a lent slice, whose list is w: the tournament over them, and what a store leaves as it was.
use Rattle.std.specs.Prelude.{◌≡◌, List, ℕ, ◌+◌, ◌*◌, ◌≤◌, ◌<◌, min, length, get_or}

-- the word of the index i
abbrev pub leaf : List ℕ → ℕ → ℕ → ℕ → ℕ
leaf w tree n i = get_or w (tree + (n + i)) 0

pub record Room (w : List ℕ) (tree n : ℕ) : Type 0 where
  pub some : 1 ≤ n
  pub ends : tree + 2 * n ≤ length w

-- there is room, and every node has the lesser of the two words below it
pub record Played (w : List ℕ) (tree n : ℕ) : Type 0 where
  pub room : Room w tree n
  pub node : (p : ℕ) → 1 ≤ p → p < n → get_or w (tree + p) 0 ≡ min (get_or w (tree + 2 * p) 0) (get_or w (tree + (2 * p + 1)) 0)

-- r is the word of an index, and the least of all
pub record Least (w : List ℕ) (tree n r : ℕ) : Type 0 where
  pub at : ℕ
  pub inside : at < n
  pub is : r ≡ leaf w tree n at
  pub least : (j : ℕ) → j < n → r ≤ leaf w tree n j

-- b is as long as a, and as a everywhere but at the nodes 1 .. n
pub record Same (tree n : ℕ) (a b : List ℕ) : Type 0 where
  pub long : length b ≡ length a
  pub before : (k : ℕ) → k ≤ tree → get_or b k 0 ≡ get_or a k 0
  pub after : (k : ℕ) → tree + n ≤ k → get_or b k 0 ≡ get_or a k 0
