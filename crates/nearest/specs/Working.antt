-- How the working slice, whose list is w, holds the slots of n offices: four words for each office, and behind them a min-tree of low ends.
use Rattle.std.specs.Prelude.{ℕ, ◌+◌, ◌*◌, ◌-◌, ◌^◌, ◌≤◌, ◌<◌, ◌≡◌, true, false, List, length, get_or}
use Rattle.mintree.specs.Mintree.{Played, leaf}
use Rattle.paper.specs.Sizes.{most_offices, slot_words}
use Rattle.paper.specs.Trail.{Trail}
use Rattle.paper.specs.Listing.{Slot, at}
use Rattle.paper.specs.Slice.{Untouched}
use Rattle.paper.specs.Bounds.{Sane}

-- the words of an office beside the tree: via, walked length, high end, stages
abbrev pub side_words : ℕ
side_words = slot_words - 2

-- where the tree of n low ends begins
abbrev pub tree_at : ℕ → ℕ
tree_at n = side_words * n

-- a low end, or a high one, with the number of its office: in the order of (end, number)
abbrev pub key : ℕ → ℕ → ℕ
key e i = most_offices * e + i

-- the word of an office that no longer waits
abbrev pub gone : ℕ
gone = 2 ^ 64 - 1

-- the low end of office i of n, as the tree has it
abbrev pub key_in : List ℕ → ℕ → ℕ → ℕ
key_in w n i = leaf w (tree_at n) n i

-- the words of office i, but for the low end
pub record Side (w : List ℕ) (i : ℕ) (t : Trail) : Type 0 where
  pub via : get_or w (side_words * i) 0 ≡ t.via
  pub walked : get_or w (side_words * i + 1) 0 ≡ t.walked
  pub high : get_or w (side_words * i + 2) 0 ≡ t.high
  pub stages : get_or w (side_words * i + 3) 0 ≡ t.stages

-- w' is w with the words of t, but for the low end, for office i
pub record Stored (i : ℕ) (t : Trail) (w w' : List ℕ) : Type 0 where
  pub long : length w' ≡ length w
  pub side : Side w' i t
  pub before : (k : ℕ) → k < side_words * i → get_or w' k 0 ≡ get_or w k 0
  pub after : (k : ℕ) → side_words * i + side_words ≤ k → get_or w' k 0 ≡ get_or w k 0

-- office i of n waits with the trail t
pub record Held (w : List ℕ) (n i : ℕ) (t : Trail) : Type 0 where
  pub side : Side w i t
  pub low : key_in w n i ≡ key t.low i

-- w holds the slots ss of n offices, on a map of so many places
pub record Shown (places n : ℕ) (w : List ℕ) (ss : List Slot) : Type 0 where
  pub few : n ≤ most_offices
  pub long : slot_words * n ≤ length w
  pub size : length ss ≡ n
  pub played : Played w (tree_at n) n
  pub held : (i : ℕ) → i < n → (at ss i).waits ≡ true → Held w n i (at ss i).trail
  pub sane : (i : ℕ) → i < n → (at ss i).waits ≡ true → Sane places (at ss i).trail
  pub left : (i : ℕ) → i < n → (at ss i).waits ≡ false → key_in w n i ≡ gone

-- b is as long as a, and as a from word n on
pub record Beyond (n : ℕ) (a b : List ℕ) : Type 0 where
  pub long : length b ≡ length a
  pub rest : Untouched n a b
