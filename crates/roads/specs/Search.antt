-- What the parts of `towards` say of a search half done. column is the list of lengths, w that of the min-tree.
use Rattle.std.specs.Prelude.{◌≡◌, ◌⊎◌, List, ℕ, ◌+◌, ◌*◌, ◌≤◌, ◌<◌, min, length, get_or}
use Rattle.mintree.specs.Mintree.{Played, leaf}
use Rattle.paper.specs.Sizes.{most_places}
use Rattle.paper.specs.Map.{Map}
use Rattle.paper.specs.Road.{Road}
use Rattle.paper.specs.Slice.{Untouched}
use Rattle.roads.specs.Towards.{far}

-- a place's number is the last part of its word, and below this
abbrev pub pack : ℕ
pack = most_places

-- the word of the place u at the length t: in the order of lengths, and of numbers where those are equal
abbrev pub packed : ℕ → ℕ → ℕ
packed t u = t * pack + u

-- the word that the min-tree has for the place u
abbrev pub word_of : List ℕ → ℕ → ℕ → ℕ
word_of w n u = leaf w 0 n u

-- the length of u is y, if that is less than it was
pub record Lowered (n u y : ℕ) (column w column' w' : List ℕ) : Type 0 where
  pub played : Played w' 0 n
  pub value : get_or column' u 0 ≡ min (get_or column u 0) y
  pub word : y < get_or column u 0 → word_of w' n u ≡ packed y u
  pub kept : get_or column u 0 ≤ y → word_of w' n u ≡ word_of w n u
  pub others : (k : ℕ) → (k ≡ u → ⊥) → get_or column' k 0 ≡ get_or column k 0
  pub leaves : (k : ℕ) → (k ≡ u → ⊥) → word_of w' n k ≡ word_of w n k

-- a place of length t and word x, once every length up to d is settled: u is settled, or it is not
pub record Done (d t x u : ℕ) : Type 0 where
  pub word : x ≡ packed far u
  pub early : t ≤ d

pub record Open (d t x u : ℕ) : Type 0 where
  pub word : x ≡ packed t u
  pub late : d ≤ t

pub record Halfway (n d : ℕ) (column w : List ℕ) : Type 0 where
  pub near : d < far
  pub long : n ≤ length column
  pub played : Played w 0 n
  pub low : (u : ℕ) → u < n → get_or column u 0 ≤ far
  pub state : (u : ℕ) → u < n → Done d (get_or column u 0) (word_of w n u) u ⊎ Open d (get_or column u 0) (word_of w n u) u

-- what is settled stays settled, and what lies past n is as it was
pub record After (n d : ℕ) (column w : List ℕ) (d' : ℕ) (column' w' : List ℕ) : Type 0 where
  pub halfway : Halfway n d' column' w'
  pub stays : (u : ℕ) → u < n → Done d (get_or column u 0) (word_of w n u) u → Done d' (get_or column' u 0) (word_of w' n u) u
  pub past : Untouched n column column'

-- each length is that of a road, and no stage into a settled place shortens a length; of p's stages that is said from the number j on
pub record Sound (m : Map) (n v d p j : ℕ) (column w : List ℕ) : Type 0 where
  pub real : (u : ℕ) → u < n → get_or column u 0 < far → Road m v u (get_or column u 0)
  pub self : get_or column v 0 ≡ 0
  pub closed : (i : ℕ) → i < m.stages → Done d (get_or column (m.head i) 0) (word_of w n (m.head i)) (m.head i) → (m.head i ≡ p → j ≤ i)
      → get_or column (m.tail i) 0 ≤ m.furlongs i + get_or column (m.head i) 0

-- p is being settled: its stages from the number j on are gone through, and the stage before j leads to p too
pub record Visit (m : Map) (n v d p j : ℕ) (column w : List ℕ) : Type 0 where
  pub sound : Sound m n v d p j column w
  pub into : (i : ℕ) → j ≡ i + 1 → m.head i ≡ p
  pub inside : p < n
  pub value : get_or column p 0 ≡ d
