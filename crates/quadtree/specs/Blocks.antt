-- The block of a place that covers a code.
use Rattle.std.specs.Prelude.{ℕ, ◌+◌, ◌*◌, ◌^◌, ◌≤◌, ◌<◌, ◌≡◌, Bool, true, false, leb, ltb, eqb, Option, Some, None}
use Rattle.std.proofs.Math.Option.{some, none}
use Rattle.std.proofs.Math.Option as math
use Rattle.paper.specs.Sizes.{top_level}
use Rattle.paper.specs.Test.{both}
use Rattle.paper.specs.Map.{Map}
use Rattle.paper.specs.Cell.{cell}
use Rattle.paper.specs.Block.{block_of}

-- a place and a code as one number
abbrev pub key_of : ℕ → ℕ → ℕ
key_of place code = place * 4 ^ top_level + code

abbrev pub key_at : Map → ℕ → ℕ
key_at m b = key_of (m.owner b) (m.code b)

-- the block r is the last whose key is at most k, or the first where no key is
pub record Last (m : Map) (k r : ℕ) : Type 0 where
  pub under : r < m.blocks
  pub reached : 1 ≤ r → key_at m r ≤ k
  pub above : (i : ℕ) → r < i → i < m.blocks → k < key_at m i

-- the block i is u's and covers the code
unfoldable pub covers_code : Map → ℕ → ℕ → ℕ → Bool
covers_code m u code i = both (eqb (m.owner i) u) (both (leb (m.code i) code) (ltb code (m.code i + 4 ^ m.level i)))

-- what is found is a block that covers the code; where nothing is found, none does
abbrev pub Found : Map → ℕ → ℕ → Option ℕ → Type 0
Found m u code (Some b) = (b < m.blocks) × (covers_code m u code b ≡ true)
Found m u code None = (b : ℕ) → b < m.blocks → covers_code m u code b ≡ false

abbrev pub cover_of : math.Option ℕ → Option ℕ
cover_of (some b) = Some b
cover_of none = None

-- the answer for a code, and what it says of a place in that cell
pub record CoverIs (m : Map) (u code : ℕ) (r : Option ℕ) : Type 0 where
  pub found : Found m u code r
  pub block : (v : ℕ) → cell m v ≡ code → r ≡ cover_of (block_of m u v)
