-- How large the numbers of an interval grow.
use Prim.Native.Nat.{ℕ, ◌+◌, ◌-◌, ◌*◌, ◌^◌, ◌≤◌, ◌<◌}
use native.Mathlib.Omega.{arith}
use native.Mathlib.Nat.{mul-le-mul}
use mathlib.Core.Path.{◌≡◌, sym}
use Rattle.paper.specs.Sizes.{ratio_unit}
use Rattle.paper.specs.Map.{Map}
use Rattle.paper.specs.Served.{served}
use Rattle.paper.specs.Trail.{Ends, between}
use Rattle.paper.proofs.LaidOut.{Grounded}
use Rattle.paper.proofs.Ends.{between_bounded}
use Rattle.paper.proofs.Holds.{Any, given}
use Rattle.paper.specs.Bounds.{Bounded}

-- a ratio times a crow distance, and what rounds it up
pub product_room : (a b : ℕ) → a < 2 ^ 32 → b < 2 ^ 32 → a * b + (ratio_unit - 1) < 2 ^ 64
product_room a b p q =
    let l : a ≤ 2 ^ 32 - 1 = omega arith in
    let r : b ≤ 2 ^ 32 - 1 = omega arith in
    omega (arith, mul-le-mul l r)

-- the ends of the interval that the code has
pub ends_within : {m : Map} → Grounded m → (u v : ℕ) → u < m.places → v < m.places → (e : Ends) → served e ≡ between m u v → Bounded e
ends_within {m} G u v hu hv e h = given Any Bounded (between m u v) e (sym h) (between_bounded G u v hu hv)
