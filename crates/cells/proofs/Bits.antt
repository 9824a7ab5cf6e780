-- The paper's sentence on codes, of the definitions: bit i of x stands at bit 2i and bit i of y at bit 2i + 1, and nothing else is there.
use Prim.Native.Nat.{ℕ, zero, suc, ◌+◌, ◌*◌, ◌/◌, ◌%◌, ◌^◌, ◌<◌}
use native.Mathlib.Omega.{arith}
use native.Mathlib.Nat.{pow-suc, pow-succ', div-div-eq-div-mul, add-zero, zero-div}
use native.Mathlib.Numerals.{add-one}
use mathlib.Core.Path.{◌≡◌, refl, sym, ap, ◌∙◌}
use Rattle.paper.specs.Sizes.{top_level}
use Rattle.paper.specs.Cell.{spread_bits, spread, code_of}
use Rattle.cells.proofs.Codes.{spread_lt, code_lt}
use Rattle.cells.proofs.Fours.{four}

-- to the base b: the places of n above the lowest are those of n / b
above : (b n q i : ℕ) → n / b ≡ q → n / b ^ suc i ≡ q / b ^ i
above b n q i e = ap (λ (k : ℕ). n / k) (pow-succ' b i) ∙ sym (div-div-eq-div-mul n b (b ^ i)) ∙ ap (λ (k : ℕ). k / b ^ i) e

-- f quarters, each with a bit of x below one of y
quarters : (f x y i : ℕ) → i < f → (spread_bits f x + 2 * spread_bits f y) / 4 ^ i % 4 ≡ x / 2 ^ i % 2 + 2 * (y / 2 ^ i % 2)
unfolding spread_bits
quarters zero x y i h = absurd (omega arith)
quarters (suc f) x y zero h = omega arith
quarters (suc f) x y (suc i) h =
    let s : ℕ = spread_bits f (x / 2) + 2 * spread_bits f (y / 2) in
    let n : ℕ = spread_bits (suc f) x + 2 * spread_bits (suc f) y in
    let e : n / 4 ≡ s = omega arith in
    rw (above 4 n s i e, above 2 x (x / 2) i refl, above 2 y (y / 2) i refl) (quarters f (x / 2) (y / 2) i (omega arith))

-- two bits of the code at a time: from bit 2i on stand bit i of x and bit i of y
pub code_quarter : (x y i : ℕ) → i < top_level → code_of x y / 4 ^ i % 4 ≡ x / 2 ^ i % 2 + 2 * (y / 2 ^ i % 2)
unfolding code_of spread
code_quarter x y i h = quarters top_level x y i h

pub code_bit_x : (x y i : ℕ) → i < top_level → code_of x y / 2 ^ (2 * i) % 2 ≡ x / 2 ^ i % 2
code_bit_x x y i h = rw (← four i) (omega (arith, code_quarter x y i h))

pub code_bit_y : (x y i : ℕ) → i < top_level → code_of x y / 2 ^ (2 * i + 1) % 2 ≡ y / 2 ^ i % 2
code_bit_y x y i h =
    let e : 2 ^ (2 * i + 1) ≡ 4 ^ i * 2 = rw (add-one, pow-suc, ← four i) in
    rw (e, ← div-div-eq-div-mul) (omega (arith, code_quarter x y i h))

-- of the spread the two bits from 2i on are bit i of x and 0
code_alone : (x : ℕ) → code_of x 0 ≡ spread x
unfolding code_of spread
code_alone x = add-zero (spread x)

pub spread_bit : (x i : ℕ) → i < top_level → spread x / 4 ^ i % 4 ≡ x / 2 ^ i % 2
spread_bit x i h = rw (← code_alone x) (omega (arith, code_quarter x 0 i h, zero-div (2 ^ i)))

-- no other number of as many bits is so
quarters_one : (f m n : ℕ) → m < 4 ^ f → n < 4 ^ f → ((i : ℕ) → i < f → m / 4 ^ i % 4 ≡ n / 4 ^ i % 4) → m ≡ n
quarters_one zero m n p q same = omega arith
quarters_one (suc f) m n p q same =
    omega (arith, same 0 (omega arith), quarters_one f (m / 4) (n / 4) (omega (arith, pow-suc 4 f)) (omega (arith, pow-suc 4 f)) up)
  where
    up : (i : ℕ) → i < f → m / 4 / 4 ^ i % 4 ≡ n / 4 / 4 ^ i % 4
    up i h = rw (← above 4 m (m / 4) i refl, ← above 4 n (n / 4) i refl) (same (suc i) (omega arith))

pub spread_one : (x n : ℕ) → n < 4 ^ top_level → ((i : ℕ) → i < top_level → n / 4 ^ i % 4 ≡ x / 2 ^ i % 2) → n ≡ spread x
spread_one x n l at = quarters_one top_level n (spread x) l (omega (arith, spread_lt x)) (λ i h. at i h ∙ sym (spread_bit x i h))

pub code_one : (x y n : ℕ) → n < 4 ^ top_level → ((i : ℕ) → i < top_level → n / 4 ^ i % 4 ≡ x / 2 ^ i % 2 + 2 * (y / 2 ^ i % 2)) → n ≡ code_of x y
code_one x y n l at = quarters_one top_level n (code_of x y) l (code_lt x y) (λ i h. at i h ∙ sym (code_quarter x y i h))
