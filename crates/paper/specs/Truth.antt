-- When a map tells the truth.
use Rattle.std.specs.Prelude.{ℕ, ◌+◌, ◌*◌, ◌≤◌, ◌<◌, ◌≡◌, true}
use Rattle.std.proofs.Math.Option.{some}
use Rattle.paper.specs.Sizes.{ratio_unit}
use Rattle.paper.specs.Map.{Map}
use Rattle.paper.specs.Crow.{crow}
use Rattle.paper.specs.Stage.{stage_of}
use Rattle.paper.specs.Block.{covers, block_of}
use Rattle.paper.specs.Road.{IsD}

-- the block b of u tells the truth about v
pub record Tells (m : Map) (u v b : ℕ) : Type 0 where
  pub colour : (d e : ℕ) → IsD m u v d → IsD m (m.head (stage_of m u (m.colour b))) v e → m.furlongs (stage_of m u (m.colour b)) + e ≡ d
  pub low : (d : ℕ) → IsD m u v d → m.low b * crow m u v ≤ ratio_unit * d
  pub high : (d : ℕ) → IsD m u v d → ratio_unit * d ≤ m.high b * crow m u v

-- v lies in a block of u, which tells the truth about it
pub record Told (m : Map) (u v : ℕ) : Type 0 where
  pub block : ℕ
  pub covered : block_of m u v ≡ some block
  pub tells : Tells m u v block

-- v can be reached from u
pub record Reach (m : Map) (u v : ℕ) : Type 0 where
  pub dist : ℕ
  pub is_d : IsD m u v dist

-- the block b covers some place other than its own
pub record Used (m : Map) (b : ℕ) : Type 0 where
  pub place : ℕ
  pub under : place < m.places
  pub other : place ≡ m.owner b → ⊥
  pub covered : covers m (m.owner b) place b ≡ true

pub record Truth (m : Map) : Type 0 where
  pub reach : (u v : ℕ) → u < m.places → v < m.places → Reach m u v
  pub told : (u v : ℕ) → u < m.places → v < m.places → (u ≡ v → ⊥) → Told m u v
  pub used : (b : ℕ) → b < m.blocks → Used m b
