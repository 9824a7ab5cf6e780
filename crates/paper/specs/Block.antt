-- The block of a place that covers another.
use Rattle.std.specs.Prelude.{ℕ, zero, suc, ◌+◌, ◌^◌, Bool, true, false, leb, ltb, eqb}
use Rattle.std.proofs.Math.Option.{Option, some, none}
use Rattle.paper.specs.Test.{both}
use Rattle.paper.specs.Map.{Map}
use Rattle.paper.specs.Cell.{cell}

-- block i is one of u's and covers v's cell: it covers the codes from its own, 4^level of them
unfoldable pub covers : Map → ℕ → ℕ → ℕ → Bool
covers m u v i = both (eqb (m.owner i) u) (both (leb (m.code i) (cell m v)) (ltb (cell m v) (m.code i + 4 ^ m.level i)))

-- the last block below n that is u's and covers v
unfoldable pub block_below : Map → ℕ → ℕ → ℕ → Option ℕ
block_below m u v zero = none
block_below m u v (suc i) = elim (covers m u v i) [ true ↦ some i | false ↦ block_below m u v i ]

-- the block of u that covers v: u's blocks do not overlap, so there is at most one
unfoldable pub block_of : Map → ℕ → ℕ → Option ℕ
unfolding block_below covers cell
block_of m u v = block_below m u v m.blocks
