-- The digits of a number counted, and written from the last to the first.
use Prim.Native.Nat.{ℕ, suc, ◌+◌, ◌-◌, ◌/◌, ◌%◌, ◌≤◌, ◌<◌}
use mathlib.Core.Path.{◌≡◌, sym, ap, ◌∙◌}
use mathlib.Core.List.{List, [], ◌∷◌, ◌++◌, append_assoc, append-nil}
use native.Mathlib.Omega.{arith}
use lib.ListN.{length, set, length-append}
use Rattle.paper.specs.Printed.{digits, decimal}
use Rattle.text.specs.Put.{Put}
use Rattle.text.proofs.Put.{put_none, put_byte, put_front, put_length}
use Rattle.text.proofs.Digits.{decimal_less, decimal_more, digits-enough, Last, last}

-- of the digits of n, those of `rest` are left to count, but for its first
abbrev pub Counted : ℕ → ℕ → ℕ → Type 0
Counted n rest count = length (decimal n) + 1 ≡ count + length (decimal rest)

pub counted_step : (n rest count : ℕ) → Counted n rest count → 10 ≤ rest → Counted n (rest / 10) (count + 1)
counted_step n rest count e h = omega (arith, ap length (decimal_more rest h), length-append (decimal (rest / 10)) ((48 + rest % 10) ∷ []))

pub counted_end : (n rest count : ℕ) → Counted n rest count → rest < 10 → count ≡ length (decimal n)
counted_end n rest count e h = omega (arith, ap length (decimal_less rest h))

-- of the digits of n, those of `rest` are left, and go between `at` and p
pub record Filling (u v : List ℕ) (at p n rest : ℕ) : Type 0 where
  pub from : at ≤ p
  pub inside : p ≤ length v
  pub used : length (digits (p - at) rest) ≡ p - at
  pub done : List ℕ
  pub all : decimal n ≡ digits (p - at) rest ++ done
  pub put : Put p done u v

pub filling_start : (u : List ℕ) (at p n : ℕ) → p ≡ at + length (decimal n) → p ≤ length u → Filling u u at p n n
unfolding decimal
filling_start u at p n e h = record {
  from = omega arith;
  inside = h;
  used = ap length same ∙ sym long;
  done = [];
  all = sym (append-nil (digits (p - at) n) ∙ same);
  put = put_none p u h;
}
  where
    long : p - at ≡ length (decimal n)
    long = omega arith

    same : digits (p - at) n ≡ decimal n
    same = ap (λ k. digits k n) long ∙ digits-enough (suc n) n

pub filling_step : {u v : List ℕ} {at p n rest d : ℕ} → Filling u v at p n rest → at < p → d ≡ 48 + rest % 10
    → Filling u (set v (p - 1) d) at (p - 1) n (rest / 10)
filling_step {u} {v} {at} {p} {n} {rest} {d} g h e = record {
  from = omega arith;
  inside = omega (arith, put_length byte);
  used = l.used;
  done = d ∷ g.done;
  all = g.all ∙ ap (λ ds. ds ++ g.done) (ap (λ k. digits k rest) more ∙ l.all) ∙ append_assoc (digits (p - 1 - at) (rest / 10)) _ g.done ∙ ap (λ c. digits (p - 1 - at) (rest / 10) ++ (c ∷ g.done)) (sym e);
  put = put_front (rw one g.put) byte;
}
  where
    more : p - at ≡ suc (p - 1 - at)
    more = omega arith

    l : Last (p - 1 - at) rest
    l = last (p - 1 - at) rest (rw more at g.used)

    one : p - 1 + length (d ∷ []) ≡ p
    one = omega arith

    byte : Put (p - 1) (d ∷ []) v (set v (p - 1) d)
    byte = put_byte (p - 1) d v (omega (arith, g.inside))

pub filling_end : {u v : List ℕ} {at p n rest : ℕ} → Filling u v at p n rest → p ≤ at → Put at (decimal n) u v
unfolding digits
filling_end {u} {v} {at} {p} {n} {rest} g h = rw (all, ← same) g.put
  where
    same : p ≡ at
    same = omega (arith, g.from)

    none : p - at ≡ 0
    none = omega arith

    all : decimal n ≡ g.done
    all = g.all ∙ ap (λ k. digits k rest ++ g.done) none
