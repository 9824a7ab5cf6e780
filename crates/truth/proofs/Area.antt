-- The words of a table of n × n, and a column that is stored in it word by word.
use Prim.Native.Nat.{ℕ, ◌+◌, ◌*◌, ◌≤◌, ◌<◌}
use native.Mathlib.Omega.{arith}
use native.Mathlib.Nat.{mul-le-mul_right}
use native.Mathlib.Decide.{dec_lt}
use mathlib.Core.Path.{◌≡◌, refl, ◌∙◌}
use mathlib.Core.List.{List}
use lib.ListN.{length, get_or, set, length-set}
use lib.Seq.{get_or-set_same, get_or-set_other}
use Rattle.paper.specs.Slice.{Untouched}
use Rattle.paper.proofs.Count.{below_all}
use Rattle.truth.specs.Table.{Stored}

-- the word of u and v is one of the table's
pub in_area : (n u v : ℕ) → u < n → v < n → u * n + v < n * n
in_area n u v p q = omega (arith, mul-le-mul_right {m = u + 1} {n = n} n (omega arith))

row_below : (n u x v w : ℕ) → v < n → u < x → u * n + v < x * n + w
row_below n u x v w p q = omega (arith, mul-le-mul_right {m = u + 1} {n = x} n (omega arith))

-- words of different rows and of different columns are different
pub rows_differ : (n u x v w : ℕ) → v < n → w < n → (u ≡ x → ⊥) → u * n + v ≡ x * n + w → ⊥
rows_differ n u x v w p q ne e = go (dec_lt u x)
  where
    go : Dec (u < x) → ⊥
    go (yes l) = omega (arith, row_below n u x v w p l)
    go (no l) = omega (arith, row_below n x u w v q (omega arith))

pub columns_differ : (n u x v w : ℕ) → v < n → w < n → (v ≡ w → ⊥) → u * n + v ≡ x * n + w → ⊥
columns_differ n u x v w p q ne e = go (dec_lt u x) (dec_lt x u)
  where
    go : Dec (u < x) → Dec (x < u) → ⊥
    go (yes l) r = omega (arith, row_below n u x v w p l)
    go (no l) (yes r) = omega (arith, row_below n x u w v q r)
    go (no l) (no r) = let same : u ≡ x = omega arith in ne (omega (arith, rw same at e))

-- the first k words of column v are stored
pub record Storing (n v k : ℕ) (column before after : List ℕ) : Type 0 where
  pub size : length after ≡ length before
  pub here : (u : ℕ) → u < k → get_or after (u * n + v) 0 ≡ get_or column u 0
  pub others : (u w : ℕ) → w < n → (w ≡ v → ⊥) → get_or after (u * n + w) 0 ≡ get_or before (u * n + w) 0
  pub rest : Untouched (n * n) before after

pub storing_none : (n v : ℕ) (column l : List ℕ) → Storing n v 0 column l l
storing_none n v column l = record { size = refl; here = λ u p. absurd (omega arith); others = λ u w p ne. refl; rest = λ i p. refl }

pub storing_more : (n v k : ℕ) (column before after : List ℕ) → v < n → k < n → n * n ≤ length after → Storing n v k column before after
    → Storing n v (k + 1) column before (set after (k * n + v) (get_or column k 0))
storing_more n v k column before after hv hk fits S = record {
  size = simp length-set S.size;
  here = λ u p. below_all (λ u. get_or new (u * n + v) 0 ≡ get_or column u 0) k old (get_or-set_same after at x 0 (omega (arith, room))) u (omega arith);
  others = λ u w p ne. get_or-set_other after at (u * n + w) x 0 (columns_differ n u k w v p hv ne) ∙ S.others u w p ne;
  rest = λ i p. get_or-set_other after at i x 0 (λ e. omega (arith, room)) ∙ S.rest i p;
}
  where
    at : ℕ
    at = k * n + v

    x : ℕ
    x = get_or column k 0

    new : List ℕ
    new = set after at x

    room : at < n * n
    room = in_area n k v hk hv

    old : (u : ℕ) → u < k → get_or new (u * n + v) 0 ≡ get_or column u 0
    old u p = get_or-set_other after at (u * n + v) x 0 (rows_differ n u k v v hv hv (omega arith)) ∙ S.here u p

pub storing_all : (n v k : ℕ) (column before after : List ℕ) → n ≤ k → Storing n v k column before after → Stored n v column before after
storing_all n v k column before after h S = record {
  size = S.size;
  here = λ u p. S.here u (omega arith);
  others = λ u w p q ne. S.others u w q ne;
  rest = S.rest;
}
