-- The loop that finds a root: it halves the span in which the root lies.
use Prim.Native.Nat.{ℕ, suc, ◌+◌, ◌*◌, ◌-◌, ◌/◌, ◌≤◌, ◌<◌}
use native.Mathlib.Omega.{arith}
use native.Mathlib.Nat.{mul-le-mul}
use mathlib.Core.Path.{◌≡◌}
use Rattle.paper.specs.Crow.{Root}
use Rattle.cells.specs.Cells.{root_limit}

-- the root of n is one of the span numbers from r on
pub record Within (n r span : ℕ) : Type 0 where
  pub some : 1 ≤ span
  pub under : r + span ≤ root_limit
  pub from : r * r ≤ n
  pub to : n < (r + span) * (r + span)

pub within_all : {n : ℕ} → n < root_limit * root_limit → Within n 0 root_limit
within_all h = omega arith

-- the middle's square is at most n, or above it
pub within_above : {n r span : ℕ} → Within n r span → 1 < span → (r + span / 2) * (r + span / 2) ≤ n → Within n (r + span / 2) (span - span / 2)
within_above {r = r} {span = span} W h p =
    let e : r + span / 2 + (span - span / 2) ≡ r + span = omega arith in
    record { some = omega arith; under = omega (arith, W.under); from = p; to = rw e W.to }

pub within_below : {n r span : ℕ} → Within n r span → 1 < span → n < (r + span / 2) * (r + span / 2) → Within n r (span - span / 2)
within_below {r = r} {span = span} W h p =
    let half : r + span / 2 ≤ r + (span - span / 2) = omega arith in
    record { some = omega arith; under = omega (arith, W.under); from = W.from; to = omega (arith, mul-le-mul half half) }

pub within_one : {n r span : ℕ} → Within n r span → span ≤ 1 → Root n r
within_one {r = r} {span = span} W h =
    let e : r + span ≡ suc r = omega (arith, W.some) in
    record { square = W.from; next = rw e at W.to }

-- the middle's square does not wrap
pub square_fits : {n r span : ℕ} → Within n r span → (r + span / 2) * (r + span / 2) ≤ root_limit * root_limit
square_fits {r = r} {span = span} W = let l : r + span / 2 ≤ root_limit = omega (arith, W.under) in mul-le-mul l l
