-- A pair of numbers, the second below n, as one number: first × n + second.
use Prim.Native.Nat.{ℕ, ◌+◌, ◌*◌, ◌≤◌, ◌<◌}
use native.Mathlib.Omega.{arith}
use native.Mathlib.Decide.{ℕ_discrete, dec_lt, dec_le}
use native.Mathlib.Nat.{mul-le-mul_right}
use mathlib.Core.Path.{◌≡◌, refl}
use lib.Dec.{leb, ltb, eqb}
use borrow.Author.Tests.{lt-ltb, le-ltb, le-leb, lt-leb, eq-eqb, ne_eqb}
use Rattle.paper.specs.Test.{both, either}

module _ (n : ℕ) where
  row : (a b : ℕ) → a < b → a * n + n ≤ b * n
  row a b p = omega (arith, mul-le-mul_right {m = a + 1} {n = b} n (omega arith))

  -- the order of pairs: a is below b, or is equal to it and x is at most y
  pub pair_leb : (a x b y : ℕ) → x ≤ n → y < n → either (ltb a b) (both (eqb a b) (leb x y)) ≡ leb (a * n + x) (b * n + y)
  pair_leb a x b y p q = elim (dec_lt a b) [
    | yes l ↦ rw (lt-ltb a b l, le-leb (a * n + x) (b * n + y) (omega (arith, row a b l)))
    | no l ↦ rw (le-ltb a b (omega arith)) (tie (omega arith) (ℕ_discrete a b))
  ]
    where
      tie : b ≤ a → Dec (a ≡ b) → both (eqb a b) (leb x y) ≡ leb (a * n + x) (b * n + y)
      tie l (yes e) = elim (dec_le x y) [
        | yes h ↦ rw (e, eq-eqb b b refl, le-leb x y h, le-leb (b * n + x) (b * n + y) (omega arith))
        | no h ↦ rw (e, eq-eqb b b refl, lt-leb x y (omega arith), lt-leb (b * n + x) (b * n + y) (omega arith))
      ]
      tie l (no e) = let h : b < a = omega arith in rw (ne_eqb a b e, lt-leb (a * n + x) (b * n + y) (omega (arith, row b a h)))

  pub pair_eqb : (a x b y : ℕ) → x < n → y < n → eqb (a * n + x) (b * n + y) ≡ both (eqb a b) (eqb x y)
  pair_eqb a x b y p q = elim (ℕ_discrete a b) [
    | yes e ↦ elim (ℕ_discrete x y) [
      | yes f ↦ rw (e, f, eq-eqb (b * n + y) (b * n + y) refl, eq-eqb b b refl, eq-eqb y y refl)
      | no f ↦ rw (e, ne_eqb (b * n + x) (b * n + y) (λ h. f (omega arith)), eq-eqb b b refl, ne_eqb x y f)
    ]
    | no e ↦ rw (ne_eqb (a * n + x) (b * n + y) (λ h. elim (dec_lt a b) [ yes l ↦ omega (arith, row a b l) | no l ↦ omega (arith, row b a (omega arith)) ]), ne_eqb a b e)
  ]
