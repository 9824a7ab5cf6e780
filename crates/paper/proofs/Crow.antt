-- The crow distance is the largest whole number whose square is at most crow_scale × (dx² + dy²); between different places it is
-- crow_unit to crow_most.
use Prim.Native.Nat.{ℕ, zero, suc, ◌+◌, ◌*◌, ◌-◌, ◌≤◌, ◌<◌}
use native.Mathlib.Omega.{arith}
use native.Mathlib.Nat.{mul-le-mul, mul-le-mul_left, mul_assoc, mul_left_comm, mul-add, add-mul, suc-mul}
use native.Mathlib.Decide.{dec_lt, ℕ_discrete}
use mathlib.Core.Path.{◌≡◌, refl, sym, ap, ◌∙◌}
use mathlib.Core.Bool.{Bool, true, false}
use lib.Dec.{leb}
use borrow.Author.Tests.{leb-true, leb-false}
use Rattle.paper.specs.Sizes.{grid_side, crow_unit, crow_scale}
use Rattle.paper.specs.Map.{Map}
use Rattle.paper.specs.Crow.{Root, crow, crow_across, crow_most, gap, root_from}
use Rattle.paper.proofs.LaidOut.{Grounded}

-- of a larger number the root is no smaller
root_le : {n n' r r' : ℕ} → n ≤ n' → Root n r → Root n' r' → r ≤ r'
root_le {r = r} {r' = r'} h R S = go (dec_lt r' r)
  where
    go : Dec (r' < r) → r ≤ r'
    go (yes p) = absurd (omega (arith, R.square, S.next, mul-le-mul p p))
    go (no p) = omega arith

pub root_one : {n r r' : ℕ} → Root n r → Root n r' → r ≡ r'
root_one R S = omega (arith, root_le (omega arith) R S, root_le (omega arith) S R)

pub root_law : (r n : ℕ) → n < suc r * suc r → Root n (root_from r n)
unfolding root_from
root_law zero n h = record { square = omega arith; next = h }
root_law (suc r) n h = go (leb (suc r * suc r) n) refl (root_law r n)
  where
    go : (b : Bool) → leb (suc r * suc r) n ≡ b → (n < suc r * suc r → Root n (root_from r n)) → Root n (elim b [ true ↦ suc r | false ↦ root_from r n ])
    go true e f = record { square = leb-true _ _ e; next = h }
    go false e f = f (leb-false _ _ e)

squares : (a b : ℕ) → a * a + b * b ≤ (a + b) * (a + b)
squares a b = rw (add-mul a b (a + b), mul-add a a b, mul-add b a b) (omega arith)

-- the search for the root begins high enough
top : (k a b : ℕ) → k * k * (a * a + b * b) < suc (k * (a + b)) * suc (k * (a + b))
top k a b =
    let s : ℕ = a + b in
    let t : ℕ = k * s in
    let e : t * t ≡ k * k * (s * s) = mul_assoc k s (k * s) ∙ ap (λ (x : ℕ). k * x) (mul_left_comm s k s) ∙ sym (mul_assoc k k (s * s)) in
    let l : k * k * (a * a + b * b) ≤ k * k * (s * s) = mul-le-mul_left (k * k) (squares a b) in
    let n : t * t ≤ t * suc t = mul-le-mul_left t (omega arith) in
    omega (arith, suc-mul t (suc t))

pub crow_law : (dx dy : ℕ) → Root (crow_scale * (dx * dx + dy * dy)) (crow_across dx dy)
unfolding crow_across
crow_law dx dy = root_law (crow_unit * (dx + dy)) (crow_scale * (dx * dx + dy * dy)) (top crow_unit dx dy)

pub gap_le : (a b n : ℕ) → a < suc n → b < suc n → gap a b ≤ n
unfolding gap
gap_le a b n p q = omega arith

gap_some : (a b : ℕ) → (a ≡ b → ⊥) → 1 ≤ gap a b
unfolding gap
gap_some a b h = omega arith

-- over larger gaps it is no smaller
crow_mono : (a b dx dy : ℕ) → a ≤ dx → b ≤ dy → crow_across a b ≤ crow_across dx dy
crow_mono a b dx dy x y = root_le (omega (arith, mul-le-mul x x, mul-le-mul y y)) (crow_law a b) (crow_law dx dy)

-- over gaps within the grid
pub crow_most_lem : (dx dy : ℕ) → dx ≤ grid_side - 1 → dy ≤ grid_side - 1 → crow_across dx dy ≤ crow_most
crow_most_lem dx dy x y = crow_mono dx dy (grid_side - 1) (grid_side - 1) x y

pub crow_longest : crow_most ≡ 92591
unfolding crow_across
crow_longest = refl

module _ {m : Map} (G : Grounded m) (u v : ℕ) (hu : u < m.places) (hv : v < m.places) where
  abbrev dx : ℕ
  dx = gap (m.x u) (m.x v)

  abbrev dy : ℕ
  dy = gap (m.y u) (m.y v)

  pub crow_le : crow m u v ≤ crow_most
  unfolding crow
  crow_le = crow_most_lem dx dy (gap_le (m.x u) (m.x v) (grid_side - 1) (G.xs u hu) (G.xs v hv)) (gap_le (m.y u) (m.y v) (grid_side - 1) (G.ys u hu) (G.ys v hv))

  pub crow_ge : (u ≡ v → ⊥) → crow_unit ≤ crow m u v
  unfolding crow
  crow_ge ne = go (dec_lt (crow m u v) crow_unit)
    where
      -- they do not share a cell
      some : Dec (m.x u ≡ m.x v) → Dec (m.y u ≡ m.y v) → Dec (u < v) → 1 ≤ dx * dx + dy * dy
      some (no a) b l = omega (arith, mul-le-mul (gap_some _ _ a) (gap_some _ _ a))
      some (yes a) (no b) l = omega (arith, mul-le-mul (gap_some _ _ b) (gap_some _ _ b))
      some (yes a) (yes b) (yes l) = absurd (G.apart u v l hv a b)
      some (yes a) (yes b) (no l) = absurd (G.apart v u (omega arith) hu (sym a) (sym b))

      go : Dec (crow m u v < crow_unit) → crow_unit ≤ crow m u v
      go (yes p) = absurd (omega (arith, (crow_law dx dy).next, mul-le-mul p p, some (ℕ_discrete (m.x u) (m.x v)) (ℕ_discrete (m.y u) (m.y v)) (dec_lt u v)))
      go (no p) = omega arith
