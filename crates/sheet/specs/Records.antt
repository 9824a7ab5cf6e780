-- The records of a map as the code reads them.
use Rattle.std.specs.Prelude.{ℕ, ◌+◌, ◌*◌, ◌≤◌, ◌<◌, ◌≡◌, List, length, get_or}
use Rattle.paper.specs.declared.Cell.{Cell}
use Rattle.paper.specs.Sizes.{grid_side}
use Rattle.paper.specs.Map.{Map}
use Rattle.paper.specs.Stage.{leaving}
use Rattle.sheet.specs.declared.stages.Stage.{Stage}
use Rattle.sheet.specs.declared.blocks.Block.{Block}

-- the place v lies in the cell c
pub record LiesAt (m : Map) (v : ℕ) (c : Cell) : Type 0 where
  pub x : c.x ≡ m.x v
  pub y : c.y ≡ m.y v

-- the place v lies on the grid, n is its cell as one number, and g is its gazetteer number
pub record Kept (m : Map) (v n g : ℕ) : Type 0 where
  pub x : m.x v < grid_side
  pub y : m.y v < grid_side
  pub cell : n ≡ m.x v * grid_side + m.y v
  pub gazetteer : g ≡ m.gazetteer v

-- the same of each of the first n places, by the words of the two slices
abbrev pub Taken : Map → ℕ → List ℕ → List ℕ → Type 0
Taken m n cells numbers = (v : ℕ) → v < n → Kept m v (get_or cells v 0) (get_or numbers v 0)

pub record StageIs (m : Map) (i : ℕ) (t : Stage) : Type 0 where
  pub tail : m.tail i ≡ t.tail
  pub head : m.head i ≡ t.head
  pub furlongs : m.furlongs i ≡ t.furlongs

pub record BlockIs (m : Map) (i : ℕ) (b : Block) : Type 0 where
  pub owner : m.owner i ≡ b.owner
  pub code : m.code i ≡ b.code
  pub level : m.level i ≡ b.level
  pub colour : m.colour i ≡ b.colour
  pub low : m.low i ≡ b.low
  pub high : m.high i ≡ b.high

-- a word for each of n places, all 0
pub record Zeros (n : ℕ) (l : List ℕ) : Type 0 where
  pub long : n ≤ length l
  pub zeros : (u : ℕ) → u < n → get_or l u 0 ≡ 0

-- word u is how many stages leave u
abbrev pub Leaving : Map → List ℕ → Type 0
Leaving m l = (u : ℕ) → u < m.places → get_or l u 0 ≡ leaving m u
