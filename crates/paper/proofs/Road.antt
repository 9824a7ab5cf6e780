-- The road distance is one number, and how to know it.
use Prim.Native.Nat.{ℕ, ◌+◌, ◌≤◌, ◌<◌}
use native.Mathlib.Omega.{arith}
use mathlib.Core.Path.{◌≡◌}
use Rattle.paper.specs.Map.{Map}
use Rattle.paper.specs.Road.{Road, arrived, along, IsD}

pub distance_one : {m : Map} {u v d e : ℕ} → IsD m u v d → IsD m u v e → d ≡ e
distance_one {d} {e} D E = omega (arith, D.least e E.road, E.least d D.road)

-- numbers that no stage makes smaller bound every road from below
pub road_least : {m : Map} {v u l : ℕ} (p : ℕ → ℕ) → p v ≡ 0 → ((i : ℕ) → i < m.stages → p (m.tail i) ≤ m.furlongs i + p (m.head i)) → Road m v u l → p u ≤ l
road_least p z h arrived = omega arith
road_least p z h (along i q e r) = omega (arith, rw e at (h i q), road_least p z h r)
