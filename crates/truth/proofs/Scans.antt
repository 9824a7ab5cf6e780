-- What a look through a slice shows: of a test over its words, and of a column of distances.
use Prim.Native.Nat.{ℕ, zero, suc, ◌<◌, ◌≤◌}
use native.Mathlib.Omega.{arith}
use native.Mathlib.Numerals.{add-one}
use mathlib.Core.Path.{◌≡◌, refl, sym, ap, ◌∙◌}
use mathlib.Core.Bool.{Bool, true, false, not}
use mathlib.Core.List.{List}
use lib.Dec.{eqb, ltb}
use lib.ListN.{length, get_or, take}
use lib.Seq.{take-length}
use Rattle.std.specs.Prelude.{◌||◌, ◌&&◌}
use Rattle.std.specs.List.{list_any, list_all}
use Rattle.std.proofs.lemmas.List.Folds.{list_any_more, list_all_more}
use borrow.Author.Tests.{eqb-true, eq-eqb, not-true, not-false}
use Rattle.paper.specs.Test.{both, due, either, every, any}
use Rattle.paper.specs.Map.{Map}
use Rattle.paper.specs.Road.{Road, IsD}
use Rattle.paper.proofs.Test.{true_false, any_true, any_of}
use Rattle.roads.specs.Towards.{far, Towards}
use Rattle.truth.specs.Faults.{Fault, number_of_check}
use Rattle.truth.specs.Roads.{Reached}
use Rattle.truth.specs.Table.{used, all_used}

-- a test that fails somewhere
pub every_not : (n : ℕ) (f : ℕ → Bool) → every n f ≡ false → (i : ℕ) × (i < n) × (f i ≡ false)
unfolding every
every_not zero f h = true_false refl h
every_not (suc n) f h = go (every n f) (every_not n f) (f n) refl h
  where
    go : (s : Bool) → (s ≡ false → (i : ℕ) × (i < n) × (f i ≡ false)) → (t : Bool) → f n ≡ t → both s t ≡ false → (i : ℕ) × (i < suc n) × (f i ≡ false)
    go true g true q h = true_false refl h
    go true g false q h = (n, omega arith, q)
    go false g t q h = let (i, p, r) = g refl in (i, omega arith, r)

-- the library's looks through the first n words of a slice are tests over them
either-or : (a b : Bool) → (a || b) ≡ either a b
either-or true b = refl
either-or false true = refl
either-or false false = refl

both-and : (a b : Bool) → (a && b) ≡ both a b
both-and true true = refl
both-and true false = refl
both-and false b = refl

pub any_taken : (p : ℕ → Bool) (l : List ℕ) (n : ℕ) → n ≤ length l → list_any p (take n l) ≡ any n (λ u. p (get_or l u 0))
unfolding any
any_taken p l zero h = refl
any_taken p l (suc n) h =
    let more : list_any p (take (suc n) l) ≡ (list_any p (take n l) || p (get_or l n 0)) = rw add-one at (list_any_more p l n 0 (omega arith)) in
    more ∙ ap (λ (b : Bool). b || p (get_or l n 0)) (any_taken p l n (omega arith)) ∙ either-or (any n (λ u. p (get_or l u 0))) (p (get_or l n 0))

pub every_taken : (p : ℕ → Bool) (l : List ℕ) (n : ℕ) → n ≤ length l → list_all p (take n l) ≡ every n (λ u. p (get_or l u 0))
unfolding every
every_taken p l zero h = refl
every_taken p l (suc n) h =
    let more : list_all p (take (suc n) l) ≡ (list_all p (take n l) && p (get_or l n 0)) = rw add-one at (list_all_more p l n 0 (omega arith)) in
    more ∙ ap (λ (b : Bool). b && p (get_or l n 0)) (every_taken p l n (omega arith)) ∙ both-and (every n (λ u. p (get_or l u 0))) (p (get_or l n 0))

pub every_all : (p : ℕ → Bool) (l : List ℕ) → list_all p l ≡ every (length l) (λ u. p (get_or l u 0))
every_all p l = rw (take-length l) at (every_taken p l (length l) (omega arith))

-- the first n marks as a slice of their own
pub used_taken : (n : ℕ) (l : List ℕ) → n ≤ length l → all_used (length (take n l)) (take n l) ≡ all_used n l
used_taken n l h = sym (every_all (λ b. eqb b used) (take n l)) ∙ every_taken (λ b. eqb b used) l n h

pub check_taken : (places n : ℕ) (l : List ℕ) (f : Fault) → n ≤ length l → number_of_check places (length (take n l)) (take n l) f ≡ number_of_check places n l f
unfolding number_of_check
check_taken places n l f h = ap (λ (b : Bool). elim (ltb f.place places) [ true ↦ f.number | false ↦ due b 15 ]) (used_taken n l h)

-- the look through a column tells whether each place has a road to v
pub reached : (m : Map) (n v : ℕ) (column : List ℕ) → Towards m n v (λ u. get_or column u 0) → (cut : Bool) → cut ≡ any n (λ u. eqb (get_or column u 0) far)
    → Reached m n v column (not cut)
reached m n v column T cut e = record { all = λ h. near (sym e ∙ not-true cut h); not_all = λ h. none (sym e ∙ not-false cut h) }
  where
    is-far : ℕ → Bool
    is-far u = eqb (get_or column u 0) far

    none : any n is-far ≡ true → (u : ℕ) × (u < n) × ((l : ℕ) → Road m v u l → ⊥)
    none h = let (u, p, e) = any_true n is-far h in (u, p, T.none u p (eqb-true _ _ e))

    not-far : any n is-far ≡ false → (u : ℕ) → u < n → get_or column u 0 ≡ far → ⊥
    not-far h u p e = true_false (any_of n is-far u p (eq-eqb (get_or column u 0) far e)) h

    near : any n is-far ≡ false → (u : ℕ) → u < n → IsD m u v (get_or column u 0)
    near h u p = T.near u p (omega (arith, T.low u p, not-far h u p))
