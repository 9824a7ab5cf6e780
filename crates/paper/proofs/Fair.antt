-- Of any map: a listing of k offices ends, with k lines or with a refusal of the walk. And how to prove a thing of its end.
use Prim.Native.Nat.{ℕ, zero, suc, ◌+◌, ◌≤◌, ◌<◌}
use native.Mathlib.Omega.{arith}
use mathlib.Core.Path.{◌≡◌, refl, sym, ap, ◌∙◌}
use mathlib.Core.Bool.{true, false}
use mathlib.Core.Option.{Option, some, none}
use mathlib.Core.List.{List, [], ◌∷◌, ◌++◌}
use lib.Dec.{eqb}
use lib.ListN.{length, length-set, length-append, get_or-append}
use lib.Seq.{get_or-set_same, get_or_at}
use borrow.Author.Tests.{eqb-true, eqb-false, eq-eqb}
use Rattle.paper.specs.Sum.{sum, one}
use Rattle.paper.specs.Map.{Map}
use Rattle.paper.specs.Quest.{Quest}
use Rattle.paper.specs.Trail.{Trail, start, refine}
use Rattle.paper.specs.Listing.{Slot, State, no_slot, at, line_of, leader, retired, refined, clear, listed, walked_on, move, step, run, starts, begin, enough, listing}
use Rattle.paper.specs.Served.{served}
use Rattle.paper.proofs.Holds.{On, given, on_if, on_true, on_then, on_map, joined}
use Rattle.paper.proofs.Count.{below_all, sum_same, sum_but, sum_most_lem, sum_ones}
use Rattle.paper.proofs.Walk.{Walk, Finer, walk_start, walk_refine}
use Rattle.paper.proofs.Leader.{Leads, Least, leader_law}
use Rattle.paper.proofs.Slots.{set_all, snoc_length, retired_trail}

-- who waits and who is listed are all; the total is what was walked, and no office has walked more stages than there are places
pub record Fair (places offices : ℕ) (st : State) : Type 0 where
  pub size : length st.slots ≡ offices
  pub counted : st.total ≡ sum offices (λ i. (at st.slots i).trail.stages)
  pub waiting : sum offices (λ i. one (at st.slots i).waits) + length st.lines ≡ offices
  pub within : (i : ℕ) → i < offices → (at st.slots i).trail.stages ≤ places

-- st' comes next after st: one more is listed, or one more refinement is made
pub record Next (st st' : State) : Type 0 where
  pub more : length st'.lines + st'.total ≡ suc (length st.lines + st.total)
  pub few : length st'.lines ≤ suc (length st.lines)

-- the state at the end of a listing of k
pub record Ended (places offices k : ℕ) (P : State → Type 0) (st : State) : Type 0 where
  pub fair : Fair places offices st
  pub holds : P st
  pub count : length st.lines ≡ k

-- the slots of the offices below n before any refinement, R of each trail
pub record Begun (R : ℕ → Trail → Type 0) (n : ℕ) (ss : List Slot) : Type 0 where
  pub size : length ss ≡ n
  pub waits : (i : ℕ) → i < n → (at ss i).waits ≡ true
  pub each : (i : ℕ) → i < n → R i (at ss i).trail

module _ (m : Map) (x : Quest) where
  pub begun_fair : (ss : List Slot) → Begun (λ i t. t.stages ≡ 0) x.count ss → Fair m.places x.count (begin ss)
  begun_fair ss B = record {
    size = B.size;
    counted = omega (arith, sum_most_lem (λ i. (at ss i).trail.stages) x.count 0 (λ i p. omega (arith, B.each i p)));
    waiting = omega (arith, sum_ones x.count, sum_same (λ i. one (at ss i).waits) (λ i. 1) x.count (λ i p. ap one (B.waits i p)));
    within = λ i p. omega (arith, B.each i p);
  }

  module _ (st : State) (F : Fair m.places x.count st) (i : ℕ) (L : Leads st.slots x.count i) where
    pub inside : i < length st.slots
    inside = omega (arith, F.size, L.here)

    listed-fair : Fair m.places x.count (listed m x st i)
    listed-fair = record {
      size = length-set ss i y ∙ F.size;
      counted = F.counted ∙ sum_same (λ j. (at ss j).trail.stages) (λ j. (at ss' j).trail.stages) x.count (λ j p. sym (stages j));
      waiting = omega (
        arith,
        F.waiting,
        snoc_length st.lines (line_of m x i (at ss i).trail),
        sum_but (λ j. one (at ss' j).waits) (λ j. one (at ss j).waits) x.count i L.here (λ j p. others j),
        ap one L.waits,
        ap (λ (s : Slot). one s.waits) (get_or-set_same ss i y no_slot inside),
      );
      within = λ j p. omega (arith, stages j, F.within j p);
    }
      where
        ss : List Slot
        ss = st.slots

        ss' : List Slot
        ss' = retired ss i

        y : Slot
        y = record { trail = (at ss i).trail; waits = false }

        stages : (j : ℕ) → (at ss' j).trail.stages ≡ (at ss j).trail.stages
        stages j = ap (λ (r : Trail). r.stages) (retired_trail ss i inside j)

        others : (j : ℕ) → (j ≡ i → ⊥) → one (at ss' j).waits ≡ one (at ss j).waits
        others = set_all (λ j s. (j ≡ i → ⊥) → one s.waits ≡ one (at ss j).waits) ss i y inside (λ e. absurd (e refl)) (λ j e e'. refl)

    refined-fair : (t : Trail) → Finer m (at st.slots i).trail t → Fair m.places x.count (walked_on st i t)
    refined-fair t N = record {
      size = length-set ss i y ∙ F.size;
      counted = omega (
        arith,
        F.counted,
        sum_but (λ j. (at ss' j).trail.stages) (λ j. (at ss j).trail.stages) x.count i L.here (λ j p. others j),
        ap (λ (s : Slot). s.trail.stages) (get_or-set_same ss i y no_slot inside),
      );
      waiting = omega (arith, F.waiting, sum_same (λ j. one (at ss' j).waits) (λ j. one (at ss j).waits) x.count (λ j p. ap one (waits j)));
      within = set_all (λ j s. j < x.count → s.trail.stages ≤ m.places) ss i y inside (λ p. omega arith) (λ j e. F.within j);
    }
      where
        ss : List Slot
        ss = st.slots

        ss' : List Slot
        ss' = refined ss i t

        y : Slot
        y = record { trail = t; waits = true }

        waits : (j : ℕ) → (at ss' j).waits ≡ (at ss j).waits
        waits = set_all (λ j s. s.waits ≡ (at ss j).waits) ss i y inside (sym L.waits) (λ j e. refl)

        others : (j : ℕ) → (j ≡ i → ⊥) → (at ss' j).trail.stages ≡ (at ss j).trail.stages
        others = set_all (λ j s. (j ≡ i → ⊥) → s.trail.stages ≡ (at ss j).trail.stages) ss i y inside (λ e. absurd (e refl)) (λ j e e'. refl)

  -- a step, by what it does with the leader
  pub step_on : (Q : ℕ → Type 0) (P : State → Type 0) (st : State) → Fair m.places x.count st → length st.lines < x.count
      → ((i : ℕ) → Leads st.slots x.count i → clear st.slots i (leader (retired st.slots i) x.count) ≡ true → P (listed m x st i))
      → ((i : ℕ) → Leads st.slots x.count i → clear st.slots i (leader (retired st.slots i) x.count) ≡ false
      → On Q (λ t. P (walked_on st i t)) (refine m (x.to i) (at st.slots i).trail))
      → On Q P (step m x st)
  unfolding step
  step_on Q P st F p f g = go (leader st.slots x.count) (leader_law st.slots x.count)
    where
      go : (r : Option ℕ) → Least st.slots x.count r → On Q P (move m x st r)
      go none h = absurd (omega (arith, F.waiting, sum_most_lem (λ j. one (at st.slots j).waits) x.count 0 (λ j q. omega (arith, ap one (h j q)))))
      go (some i) h =
          on_if Q P (clear st.slots i (leader (retired st.slots i) x.count)) _ _ (f i h)
          (λ c. on_then Q (λ t. P (walked_on st i t)) P (refine m (x.to i) (at st.slots i).trail) _ (g i h c) (λ t q. q))

  pub fair_step : (st : State) → Fair m.places x.count st → length st.lines < x.count → On Walk (λ st'. Fair m.places x.count st' × Next st st') (step m x st)
  fair_step st F p =
      step_on Walk (λ st'. Fair m.places x.count st' × Next st st') st F p
      (λ i L c. (listed-fair st F i L, omega (arith, snoc_length st.lines (line_of m x i (at st.slots i).trail))))
      (λ i L c. let t : Trail = (at st.slots i).trail in
      on_map Walk (Finer m t) (λ t'. Fair m.places x.count (walked_on st i t') × Next st (walked_on st i t')) (refine m (x.to i) t) (walk_refine m (x.to i) t)
      (λ t' N. (refined-fair st F i L t' N, omega arith)))

  -- what every step keeps holds at the end
  pub run_on : (Q : ℕ → Type 0) (P : State → Type 0) (k : ℕ) → k ≤ x.count
      → ((st : State) → Fair m.places x.count st → P st → length st.lines < k → On Q P (step m x st))
      → (f : ℕ) (st : State) → Fair m.places x.count st → P st → length st.lines ≤ k → enough m x k ≤ f + (length st.lines + st.total)
      → On Q (Ended m.places x.count k P) (run m x f k st)
  unfolding run
  run_on Q P k most keeps zero st F p h e =
      let full : length st.lines ≡ k = omega (arith, F.counted, sum_most_lem (λ i. (at st.slots i).trail.stages) x.count m.places F.within) in
      on_true Q (Ended m.places x.count k P) (eqb (length st.lines) k) _ _ (eq-eqb (length st.lines) k full) (record { fair = F; holds = p; count = full })
  run_on Q P k most keeps (suc f) st F p h e =
      on_if Q (Ended m.places x.count k P) (eqb (length st.lines) k) _ _ (λ c. record { fair = F; holds = p; count = eqb-true (length st.lines) k c })
      (λ c. let lt : length st.lines < k = omega (arith, eqb-false (length st.lines) k c) in
      on_then Q (λ st'. P st' × (Fair m.places x.count st' × Next st st')) (Ended m.places x.count k P) (step m x st) (run m x f k)
      (joined Q Walk P (λ st'. Fair m.places x.count st' × Next st st') (step m x st) (keeps st F p lt) (fair_step st F (omega arith)))
      (λ st' h. run_on Q P k most keeps f st' h.1.0 h.0 (omega (arith, h.1.1.few)) (omega (arith, h.1.1.more))))

  pub starts_on : (Q : ℕ → Type 0) (R : ℕ → Trail → Type 0) (n : ℕ) → ((i : ℕ) → i < n → On Q (R i) (start m (x.from i) (x.to i))) → On Q (Begun R n) (starts m x n)
  unfolding starts
  starts_on Q R zero h = record { size = refl; waits = λ i p. absurd (omega arith); each = λ i p. absurd (omega arith) }
  starts_on Q R (suc n) h =
      on_then Q (Begun R n) (Begun R (suc n)) (starts m x n) _ (starts_on Q R n (λ i p. h i (omega arith)))
      (λ ss B. on_then Q (R n) (Begun R (suc n)) (start m (x.from n) (x.to n)) _ (h n (omega arith)) (λ t r. more ss B t r))
    where
      more : (ss : List Slot) → Begun R n ss → (t : Trail) → R n t → Begun R (suc n) (ss ++ (record { trail = t; waits = true } ∷ []))
      more ss B t r = record {
        size = omega (arith, length-append ss (slot ∷ []), B.size);
        waits = below_all (λ i. (at (ss ++ (slot ∷ [])) i).waits ≡ true) n (λ i p. rw (old i p) (B.waits i p)) (rw new refl);
        each = below_all (λ i. R i (at (ss ++ (slot ∷ [])) i).trail) n (λ i p. rw (old i p) (B.each i p)) (rw new r);
      }
        where
          slot : Slot
          slot = record { trail = t; waits = true }

          old : (i : ℕ) → i < n → at (ss ++ (slot ∷ [])) i ≡ at ss i
          old i p = get_or-append ss (slot ∷ []) no_slot i (omega (arith, B.size))

          new : at (ss ++ (slot ∷ [])) n ≡ slot
          new = get_or_at ss slot [] no_slot n B.size

  pub listing_on : (Q : ℕ → Type 0) (R : ℕ → Trail → Type 0) (P : State → Type 0) (k : ℕ) → k ≤ x.count
      → ((i : ℕ) → i < x.count → On Q (R i) (start m (x.from i) (x.to i)))
      → ((ss : List Slot) → Begun R x.count ss → P (begin ss))
      → ((st : State) → Fair m.places x.count st → P st → length st.lines < k → On Q P (step m x st))
      → On Q (Ended m.places x.count k P) (listing m x k)
  unfolding listing
  listing_on Q R P k most first begins keeps =
      let Z : List Slot → Type 0 = Begun (λ i t. t.stages ≡ 0) x.count in
      on_then Q (λ ss. Begun R x.count ss × Z ss) (Ended m.places x.count k P) (starts m x x.count) _
      (joined Q Walk (Begun R x.count) Z (starts m x x.count) (starts_on Q R x.count first)
      (starts_on Walk (λ i t. t.stages ≡ 0) x.count (λ i p. walk_start m (x.from i) (x.to i))))
      (λ ss B. run_on Q P k most keeps (enough m x k) (begin ss) (begun_fair ss B.1) (begins ss B.0) (omega arith) (omega arith))

  -- of any map
  pub listing_ends : (k : ℕ) → k ≤ x.count → On Walk (Ended m.places x.count k (λ st. Unit {0})) (listing m x k)
  listing_ends k most =
      listing_on Walk (λ i t. Unit {0}) (λ st. Unit {0}) k most
      (λ i p. on_map Walk (λ t. t.stages ≡ 0) (λ t. Unit {0}) (start m (x.from i) (x.to i)) (walk_start m (x.from i) (x.to i)) (λ t e. tt))
      (λ ss B. tt)
      (λ st F p lt. on_map Walk (λ st'. Fair m.places x.count st' × Next st st') (λ st'. Unit {0}) (step m x st) (fair_step st F (omega arith)) (λ st' h. tt))

  -- a listing that is served has k lines
  pub listing_count : (k : ℕ) → k ≤ x.count → (st : State) → listing m x k ≡ served st → length st.lines ≡ k
  listing_count k most st e = (given Walk (Ended m.places x.count k (λ st. Unit {0})) (listing m x k) st e (listing_ends k most)).count
