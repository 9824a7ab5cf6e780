-- What a layout with nothing due gives of a map, in plain sentences: of its ground, places and blocks alone, and of the whole.
use Prim.Native.Nat.{ℕ, ◌+◌, ◌%◌, ◌^◌, ◌≤◌, ◌<◌}
use mathlib.Core.Path.{◌≡◌}
use Rattle.paper.specs.Sizes.{most_places, most_stages, most_blocks, grid_side, top_level, most_furlongs, most_leaving}
use Rattle.paper.specs.Order.{Before}
use Rattle.paper.specs.Map.{Map}
use Rattle.paper.specs.Stage.{leaving, stage_of}

pub record Grounded (m : Map) : Type 0 where
  pub some : 1 ≤ m.places
  pub places : m.places ≤ most_places
  pub blocks : m.blocks ≤ most_blocks
  pub xs : (v : ℕ) → v < m.places → m.x v < grid_side
  pub ys : (v : ℕ) → v < m.places → m.y v < grid_side
  pub apart : (u v : ℕ) → u < v → v < m.places → m.x u ≡ m.x v → m.y u ≡ m.y v → ⊥
  pub numbered : (v : ℕ) → v < m.places → 1 ≤ m.gazetteer v
  pub unlike : (u v : ℕ) → u < v → v < m.places → m.gazetteer u ≡ m.gazetteer v → ⊥
  pub owners : (b : ℕ) → b < m.blocks → m.owner b < m.places
  pub levels : (b : ℕ) → b < m.blocks → m.level b ≤ top_level
  pub codes : (b : ℕ) → b < m.blocks → m.code b < 4 ^ top_level
  pub fits : (b : ℕ) → b < m.blocks → m.code b % 4 ^ m.level b ≡ 0
  pub ordered : (b : ℕ) → b < m.blocks → m.low b ≤ m.high b
  pub ratios : (b : ℕ) → b < m.blocks → m.high b < 2 ^ 32
  pub grouped : (b c : ℕ) → b < c → c < m.blocks → m.owner b ≤ m.owner c
  pub parted : (b c : ℕ) → b < c → c < m.blocks → m.owner b ≡ m.owner c → m.code b + 4 ^ m.level b ≤ m.code c

pub record LaidOut (m : Map) : Type 0 where
  pub ground : Grounded m
  pub gazetteer : (v : ℕ) → v < m.places → m.gazetteer v < 2 ^ 32
  pub stages : m.stages ≤ most_stages
  pub tails : (i : ℕ) → i < m.stages → m.tail i < m.places
  pub heads : (i : ℕ) → i < m.stages → m.head i < m.places
  pub onward : (i : ℕ) → i < m.stages → m.tail i ≡ m.head i → ⊥
  pub long : (i : ℕ) → i < m.stages → 1 ≤ m.furlongs i
  pub short : (i : ℕ) → i < m.stages → m.furlongs i ≤ most_furlongs
  pub sorted : (i j : ℕ) → i < j → j < m.stages → Before (m.tail i) (m.head i) (m.tail j) (m.head j)
  pub few : (u : ℕ) → u < m.places → leaving m u ≤ most_leaving
  pub hues : (b : ℕ) → b < m.blocks → m.colour b < leaving m (m.owner b)
  pub colours : (b : ℕ) → b < m.blocks → stage_of m (m.owner b) (m.colour b) < m.stages
  pub leaves : (b : ℕ) → b < m.blocks → m.tail (stage_of m (m.owner b) (m.colour b)) ≡ m.owner b
