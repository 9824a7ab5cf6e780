-- What settling a place does to a search half done, that it ends, and what it has found when no place is left.
use mathlib.Core.Path.{◌≡◌, refl, sym, ap}
use mathlib.Core.Logic.{⊎_elim}
use mathlib.Core.List.{List}
use Prim.Native.Nat.{ℕ, ◌+◌, ◌-◌, ◌*◌, ◌/◌, ◌%◌, ◌≤◌, ◌<◌, min}
use native.Mathlib.Decide.{dec_le}
use native.Mathlib.Omega.{arith}
use lib.ListN.{get_or, set}
use Rattle.mintree.specs.Mintree.{Played, Least, Same}
use Rattle.paper.specs.Sum.{sum}
use Rattle.paper.specs.Sizes.{most_places, most_furlongs}
use Rattle.std.proofs.Common.{rules}
use Rattle.paper.specs.Map.{Map}
use Rattle.paper.specs.Road.{Road, arrived, along}
use Rattle.paper.proofs.Count.{sum_lt, rank, rank_lt, rank_top}
use Rattle.paper.proofs.Road.{road_least}
use Rattle.roads.specs.Chain.{Latest, Starts, GoesOn}
use Rattle.roads.specs.Towards.{far, Towards, Ready, Lists}
use Rattle.roads.specs.Search.{pack, packed, word_of, Done, Halfway, After, Sound, Visit}
use Rattle.roads.proofs.Steps.{after_then}

-- ---- a place is settled
module _ {n d : ℕ} {column w : List ℕ} {r : ℕ} (few : n ≤ most_places) (H : Halfway n d column w) (L : Least w 0 n r) where
  module _ (some : r < far * pack) where
    at-is : r % pack ≡ L.at
    at-is = search rules

    pub at_in : r % pack < n
    at_in = omega (arith, at-is, L.inside)

    pub at_value : get_or column (r % pack) 0 ≡ r / pack
    at_value = search rules

    pub at_open : word_of w n (r % pack) ≡ r
    at_open = rw at-is (sym L.is)

    module _ {p : ℕ} (p-is : p ≡ r % pack) {w' : List ℕ} (S : Same 0 n (set w (n + p) (packed far p)) w') (P : Played w' 0 n) where
      pub taken-done : Done (r / pack) (get_or column p 0) (word_of w' n p) p
      taken-done = search rules

      -- the chain of p begins at b
      pub taken-visit : {m : Map} {v q b : ℕ} → ((k : ℕ) → k < m.stages → m.head k < n) → Latest m.head p m.stages b → Sound m n v d q 0 column w → Visit m n v (r / pack) p b column w'
      taken-visit head_in B S₀ = search rules

  -- ---- no place is left
  module _ (none : far * pack ≤ r) {m : Map} {v q : ℕ} (S : Sound m n v d q 0 column w) (tail_in : (k : ℕ) → k < m.stages → m.tail k < n) (head_in : (k : ℕ) → k < m.stages → m.head k < n)
      (high : (k : ℕ) → k < m.stages → m.furlongs k ≤ most_furlongs)
    where
      abbrev f : ℕ → ℕ
      f u = get_or column u 0

      near : (i : ℕ) → i < m.stages → f (m.tail i) ≤ m.furlongs i + f (m.head i)
      near i l = ⊎_elim
          (λ D. S.closed i l D (λ e. omega arith))
          (λ O. omega (arith, O.word, L.least (m.head i) (head_in i l), H.low (m.tail i) (tail_in i l), head_in i l))
          (H.state (m.head i) (head_in i l))

      -- of the places on a road each is at most a stage farther than the next, and the next is one more that is nearer
      bound : {u l : ℕ} → Road m v u l → (x : ℕ) → x ≤ f u → x ≤ most_furlongs * rank f n x
      bound arrived x h = omega (arith, S.self)
      bound (along i k e r) x h = elim (dec_le x (f (m.head i))) [
        | yes le ↦ bound r x le
        | no gt ↦ omega (arith, bound r (f (m.head i)) (omega arith), near i k, high i k, ap f e, rank_lt f n (f (m.head i)) x (m.head i) (omega arith) (head_in i k) (omega arith) (omega arith))
      ]

      pub all_near : Towards m n v f
      all_near = record {
        low = H.low;
        near = λ u l h. record { road = S.real u l h; least = λ k r. road_least f S.self near r };
        none = λ u l e k r. omega (arith, bound r (f u) (omega arith), rank_top f n (f u) u l (omega arith));
      }

-- ---- how many are not settled: the word of a settled place lies above that of its length
abbrev open_at : List ℕ → List ℕ → ℕ → ℕ → ℕ
open_at column w n u = min 1 (packed (get_or column u 0) u + 1 - word_of w n u)

abbrev pub left : ℕ → List ℕ → List ℕ → ℕ
left n column w = sum n (open_at column w n)

module _ {n d d' : ℕ} {column w column' w' : List ℕ} (H : Halfway n d column w) (A : After n d column w d' column' w') where
  fewer-at : (u : ℕ) → u < n → open_at column' w' n u ≤ open_at column w n u
  fewer-at u l = search rules

  pub fewer : (p : ℕ) → p < n → word_of w n p ≡ packed (get_or column p 0) p → Done d' (get_or column' p 0) (word_of w' n p) p → left n column' w' < left n column w
  fewer p l e D = sum_lt (open_at column' w' n) (open_at column w n) n p l fewer-at (omega (arith, e, D.word, D.early, A.halfway.near))

-- ---- `settle`: every length up to d is settled
pub record Settling (tails lengths last previous : List ℕ) (n : ℕ) (column₀ w₀ column w : List ℕ) : Type 0 where
  pub d : ℕ
  pub after : After n 0 column₀ w₀ d column w
  pub sound : (m : Map) (v : ℕ) → Lists m tails lengths n → Starts m.head n m.stages last → GoesOn m.head m.stages previous → Sound m n v 0 0 0 column₀ w₀ → Sound m n v d 0 0 column w

module _ {tails lengths last previous : List ℕ} {n : ℕ} {column₀ w₀ column w : List ℕ} {r : ℕ} (R : Ready tails lengths previous n) (K : Settling tails lengths last previous n column₀ w₀ column w) (L : Least w 0 n r) where
  pub settling_end : far * pack ≤ r → (m : Map) (v : ℕ) → Lists m tails lengths n → Starts m.head n m.stages last → GoesOn m.head m.stages previous → Sound m n v 0 0 0 column₀ w₀ → Towards m n v (λ u. get_or column u 0)
  settling_end none m v M T G S =
      all_near R.few K.after.halfway L none (K.sound m v M T G S)
      (λ k l. omega (arith, M.tail k l, R.tail_in k (omega (arith, M.stages))))
      M.head_in
      (λ k l. omega (arith, M.furlongs k l, R.furlongs_high k (omega (arith, M.stages))))

  module _ (some : r < far * pack) where
    pub next-in : r % pack < n
    next-in = at_in R.few K.after.halfway L some

    module _ {w₁ : List ℕ} (S₁ : Same 0 n (set w (n + r % pack) (packed far (r % pack))) w₁) (P₁ : Played w₁ 0 n) where
      pub next-after : After n K.d column w (r / pack) column w₁
      next-after = search rules

      module _ {column' w' : List ℕ} (A : After n (r / pack) column w₁ (r / pack) column' w') where
        pub settling-less : left n column' w' < left n column w
        settling-less =
            fewer K.after.halfway (after_then next-after A) (r % pack) next-in
            (omega (arith, at_open R.few K.after.halfway L some, at_value R.few K.after.halfway L some))
            (A.stays (r % pack) next-in (taken-done R.few K.after.halfway L some refl S₁ P₁))

        pub settling-step : ((m : Map) (v p : ℕ) → Lists m tails lengths n → GoesOn m.head m.stages previous → Visit m n v (r / pack) p (get_or last (r % pack) 0) column w₁ → Visit m n v (r / pack) p 0 column' w')
            → Settling tails lengths last previous n column₀ w₀ column' w'
        settling-step F = record {
          d = r / pack;
          after = after_then K.after (after_then next-after A);
          sound = sound;
        }
          where
            sound : (m : Map) (v : ℕ) → Lists m tails lengths n → Starts m.head n m.stages last → GoesOn m.head m.stages previous → Sound m n v 0 0 0 column₀ w₀ → Sound m n v (r / pack) 0 0 column' w'
            sound m v M T G S =
                let Q = F m v (r % pack) M G (taken-visit R.few K.after.halfway L some refl S₁ P₁ M.head_in (T (r % pack) next-in) (K.sound m v M T G S)) in
                record { real = Q.sound.real; self = Q.sound.self; closed = λ i l D f. Q.sound.closed i l D (λ e. omega arith) }
