-- Powers of four, by shifts and masks.
use Prim.Native.Nat.{ℕ, zero, suc, ◌+◌, ◌-◌, ◌*◌, ◌%◌, ◌^◌, ◌≤◌, ◌<◌}
use native.Mathlib.Omega.{arith}
use native.Mathlib.Nat.{pow-suc, pow-le-pow_right}
use mathlib.Core.Path.{◌≡◌, refl}
use lib.Dec.{eqb}
use lib.Bits.{bit_and, and_mask}
use lib.Pow.{shl_exact, pow_pos, pow-add}
use Rattle.paper.specs.Sizes.{top_level}

pub four : (l : ℕ) → 4 ^ l ≡ 2 ^ (2 * l)
four zero = refl
four (suc l) = let e : 2 * suc l ≡ 2 * l + 2 = omega arith in rw (e, pow-suc, pow-add, four l)

pub four_pos : (l : ℕ) → 0 < 4 ^ l
four_pos l = rw (four l) (pow_pos (2 * l))

pub four_most : (l : ℕ) → l ≤ top_level → 4 ^ l ≤ 4 ^ top_level
four_most l h = pow-le-pow_right (omega arith) h

-- one bit, shifted
pub one_shifted : (l : ℕ) → l ≤ top_level → 1 * 2 ^ (2 * l) % 2 ^ 32 ≡ 4 ^ l
one_shifted l h = rw (shl_exact {a = 1} 1 (2 * l) 32 (omega arith) (omega arith), four l) (omega arith)

-- the rest by a power of four, masked
pub masked : (n l x : ℕ) → x ≡ 4 ^ l → eqb (bit_and n (x - 1)) 0 ≡ eqb (n % 4 ^ l) 0
masked n l x e = rw (e, four l, and_mask)
