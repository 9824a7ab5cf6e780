-- What clearing the first words of a slice leaves.
use Prim.Native.Nat.{ℕ, zero, suc, ◌+◌, ◌-◌, ◌≤◌}
use native.Mathlib.Omega.{arith}
use mathlib.Core.Path.{◌≡◌, refl, sym, ap, ◌∙◌}
use mathlib.Core.List.{List, ◌++◌}
use lib.ListN.{length, get_or, take, drop, replicate, length-append, length-replicate, length-drop}
use lib.Seq.{ext_get_or, get_or-drop, drop_at, length-take-le}
use Rattle.paper.specs.Slice.{Untouched, cleared}

-- every word of a slice of zeros is 0, past its end too
pub zeros : (n i : ℕ) → ◌≡◌ {A = ℕ} (get_or (replicate n 0) i 0) 0
zeros zero i = refl
zeros (suc n) zero = refl
zeros (suc n) (suc i) = zeros n i

-- as many words as were lent
pub cleared_size : (n : ℕ) (l : List ℕ) → n ≤ length l → length (cleared n l) ≡ length l
cleared_size n l h = omega (arith, length-append (replicate n 0) (drop n l), length-replicate {A = ℕ} n 0, length-drop n l)

-- two lists that are alike from n on
pub untouched_drop : (n : ℕ) (a b : List ℕ) → drop n b ≡ drop n a → Untouched n a b
untouched_drop n a b e k h =
    let j : ℕ = k - n in
    let back : n + j ≡ k = omega arith in
    let same : get_or b (n + j) 0 ≡ get_or a (n + j) 0 = sym (get_or-drop n b j 0) ∙ ap (λ (l : List ℕ). get_or l j 0) e ∙ get_or-drop n a j 0 in
    rw back at same

pub cleared_rest : (n : ℕ) (l : List ℕ) → Untouched n l (cleared n l)
cleared_rest n l = untouched_drop n l (cleared n l) (drop_at (replicate n 0) (drop n l) n (length-replicate {A = ℕ} n 0))

-- what the first n words were does not show
pub cleared-same : (n : ℕ) (a b : List ℕ) → length b ≡ length a → Untouched n a b → cleared n b ≡ cleared n a
cleared-same n a b e U =
    ap (λ (r : List ℕ). replicate n 0 ++ r) (ext_get_or 0 (drop n b) (drop n a) (omega (arith, length-drop n a, length-drop n b))
    (λ i p. get_or-drop n b i 0 ∙ U (n + i) (omega arith) ∙ sym (get_or-drop n a i 0)))

-- the library's fill leaves the first n words cleared
pub filled : (n : ℕ) (l new : List ℕ) → n ≤ length l → new ≡ replicate (length (take n l)) 0 → new ++ drop n l ≡ cleared n l
filled n l new p e = ap (λ (x : List ℕ). x ++ drop n l) (e ∙ ap (λ (j : ℕ). replicate j 0) (length-take-le n l p))
