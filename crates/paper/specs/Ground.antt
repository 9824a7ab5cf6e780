-- The ground of a map, its places and blocks, and the rules that a whole map keeps. Who supplies the stages is another's business.
use Rattle.std.specs.Prelude.{ℕ, ◌^◌, ◌≤◌, ◌<◌, ◌≡◌, true}
use Rattle.paper.specs.Sizes.{most_places, most_stages, most_blocks}
use Rattle.paper.specs.Map.{Map}
use Rattle.paper.specs.Layout.{places_hold, stages_hold, blocks_hold}

-- the places and blocks of m are those of g, as far as they are counted
pub record SameGround (m g : Map) : Type 0 where
  pub places : m.places ≡ g.places
  pub x : (v : ℕ) → v < m.places → m.x v ≡ g.x v
  pub y : (v : ℕ) → v < m.places → m.y v ≡ g.y v
  pub gazetteer : (v : ℕ) → v < m.places → m.gazetteer v ≡ g.gazetteer v
  pub blocks : m.blocks ≡ g.blocks
  pub owner : (b : ℕ) → b < m.blocks → m.owner b ≡ g.owner b
  pub code : (b : ℕ) → b < m.blocks → m.code b ≡ g.code b
  pub level : (b : ℕ) → b < m.blocks → m.level b ≡ g.level b
  pub colour : (b : ℕ) → b < m.blocks → m.colour b ≡ g.colour b
  pub low : (b : ℕ) → b < m.blocks → m.low b ≡ g.low b
  pub high : (b : ℕ) → b < m.blocks → m.high b ≡ g.high b

-- the counts of m are in their ranges, its gazetteer numbers and ratios are words, and its places, stages and blocks keep their rules
pub record Lawful (m : Map) : Type 0 where
  pub some : 1 ≤ m.places
  pub places : m.places ≤ most_places
  pub stages : m.stages ≤ most_stages
  pub blocks : m.blocks ≤ most_blocks
  pub gazetteer : (v : ℕ) → v < m.places → m.gazetteer v < 2 ^ 32
  pub ratios : (b : ℕ) → b < m.blocks → m.high b < 2 ^ 32
  pub placed : places_hold m ≡ true
  pub staged : stages_hold m ≡ true
  pub blocked : blocks_hold m ≡ true
