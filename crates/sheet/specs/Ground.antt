-- What the core reads: the ground, places and blocks at the start of some bytes; the book, the stages in slices; the list, office records in a slice of their own.
use Rattle.std.specs.Prelude.{ℕ, ◌+◌, ◌*◌, ◌≤◌, ◌<◌, ◌≡◌, true, List, length, get_or}
use Rattle.paper.specs.declared.Counts.{Counts}
use Rattle.paper.specs.Sizes.{place_words, stage_words, block_words, most_places, most_stages, most_blocks, most_offices, most_furlongs}
use Rattle.paper.specs.Map.{Map}
use Rattle.paper.specs.Sheet.{word, stages_at, blocks_at, map_of}
use Rattle.paper.specs.Layout.{section, places_hold, stages_hold, blocks_lie, blocks_hold}
use Rattle.paper.specs.Ground.{SameGround, Lawful}
use Rattle.sheet.specs.Book.{Leads}

-- the bytes begin with whole sections of places, stages and blocks, which have these counts; what follows is not looked at
pub record Parted (g : List ℕ) (c : Counts) : Type 0 where
  pub placed : section g 0 1 most_places place_words ≡ 0
  pub staged : section g (stages_at g) 0 most_stages stage_words ≡ 0
  pub blocked : section g (blocks_at g) 0 most_blocks block_words ≡ 0
  pub places : c.places ≡ (map_of g).places
  pub stages : c.stages ≡ (map_of g).stages
  pub blocks : c.blocks ≡ (map_of g).blocks

-- and their places and blocks keep what rules do not speak of stages
pub record Ground (g : List ℕ) (c : Counts) : Type 0 where
  pub parts : Parted g c
  pub places : places_hold (map_of g) ≡ true
  pub blocks : blocks_lie (map_of g) ≡ true

-- and their places, stages and blocks keep every rule: the map is read off the bytes
pub record Mapped (g : List ℕ) (c : Counts) : Type 0 where
  pub parts : Parted g c
  pub places : places_hold (map_of g) ≡ true
  pub stages : stages_hold (map_of g) ≡ true
  pub blocks : blocks_hold (map_of g) ≡ true

-- the stage that the block b names by its colour
abbrev pub named : List ℕ → List ℕ → ℕ → ℕ
named g first b = get_or first ((map_of g).owner b) 0 + (map_of g).colour b

-- the map m has the ground g and keeps the rules, and its stages stand in the book
pub record Charted (g first heads lengths : List ℕ) (m : Map) : Type 0 where
  pub ground : SameGround m (map_of g)
  pub lawful : Lawful m
  pub leads : Leads m first heads lengths

-- the stage that each block names stands in the book, leads to a place, and is as long as a stage may be
pub record Stocked (g first heads lengths : List ℕ) : Type 0 where
  pub places : (map_of g).places ≤ length first
  pub to : (b : ℕ) → b < (map_of g).blocks → named g first b < length heads
  pub long : (b : ℕ) → b < (map_of g).blocks → named g first b < length lengths
  pub placed : (b : ℕ) → b < (map_of g).blocks → get_or heads (named g first b) 0 < (map_of g).places
  pub short : (b : ℕ) → b < (map_of g).blocks → get_or lengths (named g first b) 0 ≤ most_furlongs

-- a list of n offices, each at one of the places
pub record Roll (l : List ℕ) (n places : ℕ) : Type 0 where
  pub few : n ≤ most_offices
  pub size : length l ≡ 4 * n
  pub stands : (i : ℕ) → i < n → word l i < places
