-- The stages that leave a place stand together, in the order of their colours.
use Prim.Native.Nat.{ℕ, zero, suc, ◌+◌, ◌-◌, ◌≤◌, ◌<◌, min}
use native.Mathlib.Omega.{arith}
use native.Mathlib.Decide.{ℕ_discrete, dec_lt}
use mathlib.Core.Path.{◌≡◌, refl, ap}
use mathlib.Core.Bool.{Bool, true, false}
use lib.Dec.{ltb, eqb}
use borrow.Author.Tests.{ltb-true, ltb-false, eqb-true, eq-eqb, ne_eqb}
use Rattle.paper.specs.Sum.{sum, one}
use Rattle.paper.specs.Map.{Map}
use Rattle.paper.specs.Stage.{stages_below, leaving, stage_of, colour_of}
use Rattle.paper.proofs.Count.{below_suc, below_all, sum_most_lem}

-- what holds of each and the next, and goes on, holds of each and any later one
pub chain : (R : ℕ → ℕ → Type 0) → ((a b c : ℕ) → R a b → R b c → R a c) → (n : ℕ) → ((i : ℕ) → suc i < n → R i (suc i))
    → (i j : ℕ) → i < j → j < n → R i j
chain R t n h i zero p q = absurd (omega arith)
chain R t n h i (suc j) p q = below_suc (R i (suc j)) i j p (λ e. rw e (h j q)) (λ p'. t i j (suc j) (chain R t n h i j p' (omega arith)) (h j q))

-- tests that hold only from a to b hold at most b - a times
pub count_span : (f : ℕ → Bool) (a b n : ℕ) → a ≤ b → ((i : ℕ) → i < n → f i ≡ true → (a ≤ i) × (i < b)) → sum n (λ i. one (f i)) ≤ min n b - min n a
unfolding sum
count_span f a b zero p h = omega arith
count_span f a b (suc n) p h = go (f n) refl (count_span f a b n p (λ i q. h i (omega arith)))
  where
    go : (t : Bool) → f n ≡ t → sum n (λ i. one (f i)) ≤ min n b - min n a → sum n (λ i. one (f i)) + one t ≤ min (suc n) b - min (suc n) a
    go true e k = let (l, r) = h n (omega arith) e in omega arith
    go false e k = omega arith

-- a test that fails below b and holds from there on
count_from : (f : ℕ → Bool) (b c : ℕ) → ((j : ℕ) → j < b → f j ≡ false) → ((j : ℕ) → b ≤ j → j < b + c → f j ≡ true) → sum (b + c) (λ j. one (f j)) ≡ c
unfolding sum
count_from f b zero out within =
    let e : b + 0 ≡ b = omega arith in
    rw e (omega (arith, sum_most_lem (λ j. one (f j)) b 0 (λ j p. omega (arith, ap one (out j p)))))
count_from f b (suc c) out within =
    let e : b + suc c ≡ suc (b + c) = omega arith in
    rw e (omega (arith, count_from f b c out (λ j p q. within j p (omega arith)), ap one (within (b + c) (omega arith) (omega arith))))

module _ (m : Map) (sorted : (i j : ℕ) → i < j → j < m.stages → m.tail i ≤ m.tail j) (u : ℕ) where
  -- b parts the first n stages: those before b leave a place below u, the others do not
  pub record Parts (n b : ℕ) : Type 0 where
    pub most : b ≤ n
    pub low : (i : ℕ) → i < b → m.tail i < u
    pub high : (i : ℕ) → b ≤ i → i < n → u ≤ m.tail i

  parts : (n : ℕ) → n ≤ m.stages → Parts n (stages_below m u n)
  unfolding stages_below
  parts zero p = record { most = omega arith; low = λ i q. absurd (omega arith); high = λ i q r. absurd (omega arith) }
  parts (suc n) p = go (ltb (m.tail n) u) refl (parts n (omega arith))
    where
      go : (t : Bool) → ltb (m.tail n) u ≡ t → Parts n (stages_below m u n) → Parts (suc n) (elim t [ true ↦ suc n | false ↦ stages_below m u n ])
      go true e P = record {
        most = omega arith;
        low = below_all (λ i. m.tail i < u) n (λ i q. omega (arith, sorted i n q p, ltb-true (m.tail n) u e)) (ltb-true (m.tail n) u e);
        high = λ i q r. absurd (omega arith);
      }
      go false e P = record {
        most = omega (arith, P.most);
        low = P.low;
        high = λ i q r. below_suc (u ≤ m.tail i) i n r (λ d. rw d (ltb-false (m.tail n) u e)) (P.high i q);
      }

  pub begins : Parts m.stages (stages_below m u m.stages)
  begins = parts m.stages (omega arith)

  -- if a stage from there on leaves another place, u's stages end before it
  span : (b : ℕ) → stages_below m u m.stages ≤ b → ((i : ℕ) → i < m.stages → b ≤ i → m.tail i ≡ u → ⊥) → leaving m u ≤ min m.stages b - min m.stages (stages_below m u m.stages)
  unfolding leaving
  span b p out = count_span (λ i. eqb (m.tail i) u) (stages_below m u m.stages) b m.stages p (λ i q e. (first i (eqb-true _ _ e), last i q (eqb-true _ _ e) (dec_lt i b)))
    where
      first : (i : ℕ) → m.tail i ≡ u → stages_below m u m.stages ≤ i
      first i e = go (dec_lt i (stages_below m u m.stages))
        where
          go : Dec (i < stages_below m u m.stages) → stages_below m u m.stages ≤ i
          go (yes l) = absurd (omega (arith, begins.low i l))
          go (no l) = omega arith

      last : (i : ℕ) → i < m.stages → m.tail i ≡ u → Dec (i < b) → i < b
      last i q e (yes l) = l
      last i q e (no l) = absurd (out i q (omega arith) e)

  pub stage_under : (c : ℕ) → c < leaving m u → stage_of m u c < m.stages
  unfolding stage_of
  stage_under c h = omega (arith, begins.most, span m.stages begins.most (λ i p q. absurd (omega arith)))

  pub stage_leaves : (c : ℕ) → c < leaving m u → m.tail (stage_of m u c) ≡ u
  unfolding stage_of
  stage_leaves c h = go (ℕ_discrete (m.tail i) u)
    where
      i : ℕ
      i = stages_below m u m.stages + c

      under : i < m.stages
      under = stage_under c h

      go : Dec (m.tail i ≡ u) → m.tail i ≡ u
      go (yes e) = e
      go (no e) =
          let over : u < m.tail i = omega (arith, begins.high i (omega arith) under) in
          absurd (omega (arith, begins.most, span i (omega arith) (λ j p q z. later j p (dec_lt i j) over q z)))
        where
          later : (j : ℕ) → j < m.stages → Dec (i < j) → u < m.tail i → i ≤ j → m.tail j ≡ u → ⊥
          later j p (yes l) over q z = omega (arith, sorted i j l p)
          later j p (no l) over q z = let same : i ≡ j = omega arith in omega (arith, rw same at over)

  -- the stage that leaves u and has the colour c is well named
  pub stage_colour : (c : ℕ) → c < leaving m u → colour_of m (stage_of m u c) ≡ c
  unfolding colour_of stage_of
  stage_colour c h = count_from (λ j. eqb (m.tail j) (m.tail i)) (stages_below m u m.stages) c
      (λ j p. ne_eqb (m.tail j) (m.tail i) (λ e. omega (arith, leaves, begins.low j p)))
      (λ j p q. eq-eqb (m.tail j) (m.tail i) (omega (arith, leaves, begins.high j p (omega (arith, under)), sorted j i q under)))
    where
      i : ℕ
      i = stages_below m u m.stages + c

      under : i < m.stages
      under = stage_under c h

      leaves : m.tail i ≡ u
      leaves = stage_leaves c h
