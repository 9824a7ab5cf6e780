-- A listing under way: the state that the slices show, and how it goes on.
use Prim.Native.Nat.{ℕ, zero, suc, ◌+◌, ◌*◌, ◌≤◌, ◌<◌}
use native.Mathlib.Omega.{arith}
use mathlib.Core.Path.{◌≡◌, refl, ap, ◌∙◌}
use mathlib.Core.Option.{Option, some, none}
use mathlib.Core.List.{List}
use lib.ListN.{length}
use borrow.Author.Tests.{ne_eqb, eq-eqb}
use Rattle.paper.specs.Sum.{one}
use Rattle.paper.specs.Served.{Served, refused, served, and_then}
use Rattle.paper.specs.Map.{Map}
use Rattle.paper.specs.Quest.{Quest}
use Rattle.paper.specs.Trail.{Trail}
use Rattle.paper.specs.Listing.{Slot, State, at, line_of, leader, listed, walked_on, step, begin, run, enough}
use Rattle.paper.proofs.Holds.{given}
use Rattle.paper.proofs.Count.{sum_most_lem}
use Rattle.paper.proofs.Walk.{Walk}
use Rattle.paper.proofs.Leader.{Least, leader_law}
use Rattle.paper.proofs.Slots.{snoc_length}
use Rattle.paper.proofs.Fair.{Fair, Next, begun_fair, fair_step}
use Rattle.nearest.specs.Working.{Shown}
use Rattle.nearest.specs.Going.{Fresh, Waiting, ListedNow, WalkedNow}

module _ (m : Map) (x : Quest) (k : ℕ) where
  run-done : (f : ℕ) (st : State) → length st.lines ≡ k → run m x f k st ≡ served st
  unfolding run
  run-done zero st e = rw (eq-eqb (length st.lines) k e, run)
  run-done (suc f) st e = rw (eq-eqb (length st.lines) k e, run)

  run_more : (f : ℕ) (st : State) → length st.lines < k → run m x (suc f) k st ≡ and_then (step m x st) (run m x f k)
  unfolding run
  run_more f st h = rw (ne_eqb (length st.lines) k (λ e. omega arith), run)

  -- goal is the outcome; so many are listed and so many refinements made
  pub record Going (goal : Served State) (w : List ℕ) (r total : ℕ) : Type 0 where
    pub state : State
    pub fuel : ℕ
    pub fair : Fair m.places x.count state
    pub shown : Shown m.places x.count w state.slots
    pub runs : goal ≡ run m x fuel k state
    pub full : enough m x k ≤ fuel + (length state.lines + state.total)
    pub counted : length state.lines ≡ r
    pub made : state.total ≡ total
    pub few : r ≤ k

  unfoldable pub going-begin : (ss : List Slot) (w : List ℕ) → Shown m.places x.count w ss → Fresh x.count ss → Going (run m x (enough m x k) k (begin ss)) w 0 0
  going-begin ss w S F = record {
    state = begin ss;
    fuel = enough m x k;
    fair = begun_fair m x ss (record { size = S.size; waits = F.waits; each = F.none });
    shown = S;
    runs = refl;
    full = omega arith;
    counted = refl;
    made = refl;
    few = omega arith;
  }

  module _ {goal : Served State} {w : List ℕ} {r total : ℕ} (G : Going goal w r total) where
    abbrev st : State
    st = G.state

    -- no office has walked more stages than there are places
    pub going-most : total ≤ x.count * m.places
    going-most = omega (arith, G.made, G.fair.counted, sum_most_lem (λ i. (at st.slots i).trail.stages) x.count m.places G.fair.within)

    pub going_done : k ≤ r → goal ≡ served G.state
    going_done h = G.runs ∙ run-done G.fuel st (omega (arith, G.counted, G.few))

    module _ (h : r < k) (most : k ≤ x.count) where
      pub going-waits : Waiting m.places x.count w
      going-waits = go (leader st.slots x.count) (leader_law st.slots x.count)
        where
          go : (l : Option ℕ) → Least st.slots x.count l → Waiting m.places x.count w
          go none f = absurd (omega (arith, G.counted, G.fair.waiting, sum_most_lem (λ j. one (at st.slots j).waits) x.count 0 (λ j q. omega (arith, ap one (f j q)))))
          go (some i) L = record { slots = st.slots; shown = G.shown; number = i; here = L.here; waits = L.waits }

      -- one step is left at least
      pub one_left : (f : ℕ) → G.fuel ≡ f → (g : ℕ) × (f ≡ suc g)
      one_left zero e = absurd (omega (arith, G.full, G.counted, G.made, going-most))
      one_left (suc g) e = (g, refl)

      abbrev fuel-left : ℕ
      fuel-left = (one_left G.fuel refl).0

      pub stepped : goal ≡ and_then (step m x st) (run m x fuel-left k)
      stepped = G.runs ∙ ap (λ (f : ℕ). run m x f k st) (one_left G.fuel refl).1 ∙ run_more fuel-left st (omega (arith, G.counted))

      pub going-refused : (n : ℕ) → step m x st ≡ refused n → goal ≡ refused n
      going-refused n e = stepped ∙ ap (λ (r : Served State). and_then r (run m x fuel-left k)) e

      -- the state after the step
      module _ (st' : State) (e : step m x st ≡ served st') where
        pub next : Fair m.places x.count st' × Next st st'
        next = given Walk (λ s. Fair m.places x.count s × Next st s) (step m x st) st' e (fair_step m x st G.fair (omega (arith, G.counted)))

        unfoldable pub going_on : (w' : List ℕ) (r' total' : ℕ) → Shown m.places x.count w' st'.slots → length st'.lines ≡ r' → st'.total ≡ total' → r' ≤ k → Going goal w' r' total'
        going_on w' r' total' S a b c = record {
          state = st';
          fuel = fuel-left;
          fair = next.0;
          shown = S;
          runs = stepped ∙ ap (λ (r : Served State). and_then r (run m x fuel-left k)) e;
          full = omega (arith, G.full, (one_left G.fuel refl).1, next.1.more);
          counted = a;
          made = b;
          few = c;
        }

      unfoldable pub going-listed : (i : ℕ) (t : Trail) (w' : List ℕ) → ListedNow m x st w' i t → Going goal w' (r + 1) total
      unfolding going_on
      going-listed i t w' L =
          going_on (listed m x st i) L.stepped w' (r + 1) total L.shown (omega (arith, snoc_length st.lines (line_of m x i (at st.slots i).trail), G.counted)) G.made (omega arith)

      unfoldable pub going-walked : (w' : List ℕ) → WalkedNow m x st w' → Going goal w' r (total + 1)
      unfolding going_on
      going-walked w' W =
          going_on (walked_on st W.number W.trail) W.stepped w' r (total + 1) W.shown G.counted (omega (arith, G.made)) G.few
