-- The decimal digits of a number, taken from its end.
use Prim.Native.Nat.{ℕ, zero, suc, ◌+◌, ◌-◌, ◌^◌, ◌/◌, ◌%◌, ◌≤◌, ◌<◌}
use mathlib.Core.Path.{◌≡◌, refl, sym, ap, ◌∙◌}
use mathlib.Core.List.{[], ◌∷◌, ◌++◌}
use native.Mathlib.Nat.{pow-succ'}
use native.Mathlib.Decide.{dec_lt}
use native.Mathlib.Omega.{arith}
use lib.ListN.{length, length-append}
use borrow.Author.Tests.{lt-ltb, le-ltb}
use Rattle.paper.specs.Printed.{digits, decimal}
use Rattle.text.specs.Room.{number_room}

-- a number of one digit, or of more
by : {A : Type 0} (n : ℕ) → (n < 10 → A) → (10 ≤ n → A) → A
by n less more = elim (dec_lt n 10) [ yes h ↦ less h | no h ↦ more (omega arith) ]

module _ (f n : ℕ) where
  pub digits_less : n < 10 → digits (suc f) n ≡ (48 + n) ∷ []
  unfolding digits
  digits_less h = rw (digits, lt-ltb n 10 h)

  pub digits_more : 10 ≤ n → digits (suc f) n ≡ digits f (n / 10) ++ ((48 + n % 10) ∷ [])
  unfolding digits
  digits_more h = rw (digits, le-ltb n 10 h)

  longer : 10 ≤ n → length (digits (suc f) n) ≡ suc (length (digits f (n / 10)))
  longer h = omega (arith, ap length (digits_more h), length-append (digits f (n / 10)) ((48 + n % 10) ∷ []))

-- fuel beyond the number makes no difference
pub digits_fuel : (f g n : ℕ) → n < f → n < g → digits f n ≡ digits g n
digits_fuel zero g n h k = absurd (omega arith)
digits_fuel (suc f) zero n h k = absurd (omega arith)
digits_fuel (suc f) (suc g) n h k =
    by n (λ l. digits_less f n l ∙ sym (digits_less g n l))
    (λ m. digits_more f n m ∙ ap (λ ds. ds ++ ((48 + n % 10) ∷ [])) (digits_fuel f g (n / 10) (omega arith) (omega arith)) ∙ sym (digits_more g n m))

pub decimal_less : (n : ℕ) → n < 10 → decimal n ≡ (48 + n) ∷ []
unfolding decimal
decimal_less n h = digits_less n n h

pub decimal_more : (n : ℕ) → 10 ≤ n → decimal n ≡ decimal (n / 10) ++ ((48 + n % 10) ∷ [])
unfolding decimal
decimal_more n h = digits_more n n h ∙ ap (λ ds. ds ++ ((48 + n % 10) ∷ [])) (digits_fuel n (suc (n / 10)) (n / 10) (omega arith) (omega arith))

-- as much fuel as there are digits is enough
pub digits-enough : (f n : ℕ) → digits (length (digits f n)) n ≡ digits f n
unfolding digits
digits-enough zero n = refl
digits-enough (suc f) n =
    by n (λ l. rw (digits_less f n l) (digits_less 0 n l))
    (λ m. ap (λ k. digits k n) (longer f n m) ∙ digits_more (length (digits f (n / 10))) n m ∙ ap (λ ds. ds ++ ((48 + n % 10) ∷ [])) (digits-enough f (n / 10)) ∙ sym (digits_more f n m))

-- where all fuel is used, the last digit comes off, and all fuel is used for the others
pub record Last (f n : ℕ) : Type 0 where
  pub all : digits (suc f) n ≡ digits f (n / 10) ++ ((48 + n % 10) ∷ [])
  pub used : length (digits f (n / 10)) ≡ f

one : (f n : ℕ) → n < 10 → f ≡ 0 → Last f n
unfolding digits
one zero n l e =
    let same : n ≡ n % 10 = omega arith in
    record { all = digits_less 0 n l ∙ ap (λ d. (48 + d) ∷ []) same; used = refl }
one (suc f) n l e = absurd (omega arith)

pub last : (f n : ℕ) → length (digits (suc f) n) ≡ suc f → Last f n
last f n e = by n (λ l. one f n l (omega (arith, ap length (digits_less f n l)))) (λ m. record { all = digits_more f n m; used = omega (arith, longer f n m) })

digits_short : (k f n : ℕ) → n < 10 ^ suc k → length (digits f n) ≤ suc k
unfolding digits
digits_short k zero n h = omega arith
digits_short zero (suc f) n h = omega (arith, ap length (digits_less f n h))
digits_short (suc k) (suc f) n h =
    by n (λ l. omega (arith, ap length (digits_less f n l)))
    (λ m. omega (arith, longer f n m, digits_short k f (n / 10) less))
  where
    less : n / 10 < 10 ^ suc k
    less = omega (arith, pow-succ' 10 (suc k))

-- a 64-bit number and the byte after it fit
pub decimal_short : (n : ℕ) → n < 2 ^ 64 → length (decimal n) < number_room
unfolding decimal
decimal_short n h = omega (arith, digits_short (number_room - 2) (suc n) n (omega arith))
