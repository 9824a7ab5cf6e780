-- The road that the colours name.
use Rattle.std.specs.Prelude.{ℕ, suc, ◌≡◌}
use Rattle.std.proofs.Math.Option.{some}
use Rattle.paper.specs.Map.{Map}
use Rattle.paper.specs.Stage.{stage_of}
use Rattle.paper.specs.Block.{block_of}

-- the place to which the block b of u sends
abbrev pub next_by : Map → ℕ → ℕ → ℕ
next_by m u b = m.head (stage_of m u (m.colour b))

-- the road to v that the colours name: from where, and its number of stages
pub data Named (m : Map) (v : ℕ) : ℕ → ℕ → Type 0 where
  home : Named m v v 0
  leave : {u n : ℕ} (b : ℕ) → (u ≡ v → ⊥) → block_of m u v ≡ some b → Named m v (next_by m u b) n → Named m v u (suc n)
