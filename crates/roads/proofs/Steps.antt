-- What a stage does to a search half done: `lower` at its tail, and the turns of `spread`.
use mathlib.Core.Path.{◌≡◌, refl, sym, subst, ◌∙◌}
use mathlib.Core.List.{List}
use Prim.Native.Nat.{ℕ, ◌+◌, ◌-◌, ◌≤◌, ◌<◌}
use native.Mathlib.Decide.{ℕ_discrete, dec_le}
use native.Mathlib.Omega.{arith}
use lib.ListN.{length, get_or}
use Rattle.std.proofs.Common.{rules}
use Rattle.paper.specs.Map.{Map}
use Rattle.paper.specs.Road.{Road, along}
use Rattle.roads.specs.Chain.{Latest, GoesOn}
use Rattle.roads.specs.Towards.{far, Ready, Lists}
use Rattle.roads.specs.Search.{word_of, Lowered, Done, Halfway, After, Visit}

-- ---- a stage
module _ {n u y d : ℕ} {column w column' w' : List ℕ} (u-in : u < n) (long : length column' ≡ length column) (H : Halfway n d column w) (L : Lowered n u y column w column' w') (onward : d ≤ y) where
  abbrev t : ℕ → ℕ
  t k = get_or column k 0

  abbrev t' : ℕ → ℕ
  t' k = get_or column' k 0

  pub step_after : After n d column w d column' w'
  step_after = search rules

  same : (k : ℕ) → t k ≤ y → t' k ≡ t k
  same k h = search rules

  module _ {m : Map} {v p i prev : ℕ} (Q : Visit m n v d p (i + 1) column w) (in-stages : i < m.stages) (tail-is : m.tail i ≡ u) (y-is : y ≡ m.furlongs i + d)
      (head_in : (k : ℕ) → k < m.stages → m.head k < n) (B : Latest m.head (m.head i) i prev)
    where
      to-p : m.head i ≡ p
      to-p = Q.into i refl

      step-real : (k : ℕ) → k < n → t' k < far → Road m v k (t' k)
      step-real k l h = elim (ℕ_discrete k u) [
        | yes e ↦ rw e (at-u (rw e at h))
        | no ne ↦
            let q = L.others k ne in
            rw q (Q.sound.real k l (rw q at h))
      ]
        where
          road : Road m v p d
          road = search rules

          at-u : t' u < far → Road m v u (t' u)
          at-u g = elim (dec_le (t u) y) [
            | yes le ↦ let q : t' u ≡ t u = omega (arith, L.value) in rw q (Q.sound.real u u-in (rw q at g))
            | no gt ↦ let q : t' u ≡ m.furlongs i + d = omega (arith, L.value) in rw q (along i in-stages tail-is (subst (λ (z : ℕ). Road m v z d) (sym to-p) road))
          ]

      step-closed : (k : ℕ) → k < m.stages → Done d (t' (m.head k)) (word_of w' n (m.head k)) (m.head k) → (m.head k ≡ p → prev ≤ k) → t' (m.tail k) ≤ m.furlongs k + t' (m.head k)
      step-closed k l D from = search rules

      pub step-visit : Visit m n v d p prev column' w'
      step-visit = record {
        sound = record {
          real = step-real;
          self = same v (omega (arith, Q.sound.self)) ∙ Q.sound.self;
          closed = step-closed;
        };
        into = λ k e. B.into k e ∙ to-p;
        inside = Q.inside;
        value = same p (omega (arith, Q.value)) ∙ Q.value;
      }

-- ---- one after the other
pub after_then : {n d d' d'' : ℕ} {column w column' w' column'' w'' : List ℕ} → After n d column w d' column' w' → After n d' column' w' d'' column'' w'' → After n d column w d'' column'' w''
after_then A B = search rules

-- ---- `spread`: a turn. j is one more than the stage's number
module _ {tails lengths previous : List ℕ} {n j d : ℕ} {column w column' w' : List ℕ} {y : ℕ} (R : Ready tails lengths previous n) (some : 0 < j) (upto : j ≤ length tails) (H : Halfway n d column w)
    (y-is : y ≡ d + get_or lengths (j - 1) 0) (long : length column' ≡ length column) (L : Lowered n (get_or tails (j - 1) 0) y column w column' w')
  where
    turn_in : get_or tails (j - 1) 0 < n
    turn_in = R.tail_in (j - 1) (omega arith)

    pub turn-after : After n d column w d column' w'
    turn-after = step_after turn_in long H L (omega arith)

    pub turn-visit : (m : Map) (v p : ℕ) → Lists m tails lengths n → GoesOn m.head m.stages previous → Visit m n v d p j column w → Visit m n v d p (get_or previous (j - 1) 0) column' w'
    turn-visit m v p K G Q =
        let i-in : j - 1 < m.stages = omega (arith, K.stages) in
        let j-is : j ≡ j - 1 + 1 = omega arith in
        step-visit turn_in long H L (omega arith) (subst (λ (k : ℕ). Visit m n v d p k column w) j-is Q) i-in (K.tail (j - 1) i-in) (omega (arith, K.furlongs (j - 1) i-in)) K.head_in (G (j - 1) i-in)
