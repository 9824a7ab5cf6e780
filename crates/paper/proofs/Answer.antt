-- On a true map every valid question is answered with the k nearest offices, and no more is refined than is due.
use Prim.Native.Nat.{ℕ, ◌-◌, ◌≤◌, ◌<◌}
use native.Mathlib.Omega.{arith}
use native.Mathlib.Decide.{ℕ_discrete}
use mathlib.Core.Path.{◌≡◌, refl, ap, subst}
use mathlib.Core.Bool.{Bool, true, false}
use mathlib.Core.List.{List}
use lib.Dec.{ltb}
use lib.ListN.{length}
use borrow.Author.Tests.{ltb-true}
use Rattle.paper.specs.Served.{served}
use Rattle.paper.specs.Map.{Map}
use Rattle.paper.specs.Quest.{Quest}
use Rattle.paper.specs.Road.{IsD}
use Rattle.paper.specs.Truth.{Truth, Reach}
use Rattle.paper.proofs.LaidOut.{LaidOut}
use Rattle.paper.specs.Named.{Named}
use Rattle.paper.specs.Trail.{Trail, start}
use Rattle.paper.specs.Listing.{Line, Slot, State, no_slot, at, begin, listing}
use Rattle.paper.specs.Answer.{Asked, Seen, Nearest, Thrifty, number_on, trail_of}
use Rattle.paper.proofs.Holds.{Holds, given, taken}
use Rattle.paper.proofs.Test.{true_false}
use Rattle.paper.proofs.Count.{choose, sum_mono}
use Rattle.paper.proofs.Walk.{Walk, walk_start}
use Rattle.paper.proofs.Named.{named_exists, named_lt}
use Rattle.paper.proofs.Sound.{Sound, start_sound}
use Rattle.paper.proofs.Fair.{Ended, Begun, listing_on}
use Rattle.paper.proofs.Inv.{Inv}
use Rattle.paper.proofs.Moves.{step_inv}

module _ {m : Map} {x : Quest} {k : ℕ} (L : LaidOut m) (T : Truth m) (A : Asked m x k) where
  -- there are such distances, roads and first trails
  pub seen : Seen m x
  seen =
      let (dist, is_d) = choose (λ i d. IsD m (x.from i) (x.to i) d) 0 x.count
      (λ i p. let r : Reach m (x.from i) (x.to i) = T.reach (x.from i) (x.to i) (A.leaves i p) (A.ends i p) in (r.dist, r.is_d)) in
      let (long, named) = choose (λ i n. Named m (x.to i) (x.from i) n) 0 x.count (λ i p. named_exists L T (x.from i) (x.to i) (A.leaves i p) (A.ends i p)) in
      let (first, starts) = choose (λ i t. start m (x.from i) (x.to i) ≡ served t) no_slot.trail x.count
      (λ i p. let (t, e, s) = taken (Sound m (x.to i) (dist i) (long i)) (start m (x.from i) (x.to i))
      (start_sound T (x.from i) (x.to i) (dist i) (long i) (A.leaves i p) (A.ends i p) (is_d i p) (named i p)) in (t, e)) in
      record { dist = dist; is_d = is_d; long = long; named = named; first = first; starts = starts }

  module _ (s : Seen m x) where
    first-fresh : (i : ℕ) → i < x.count → (s.first i).stages ≡ 0
    first-fresh i p = given Walk (λ t. t.stages ≡ 0) (start m (x.from i) (x.to i)) (s.first i) (s.starts i p) (walk_start m (x.from i) (x.to i))

    first-sound : (i : ℕ) → i < x.count → Sound m (x.to i) (s.dist i) (s.long i) (s.first i)
    first-sound i p = subst (Holds (Sound m (x.to i) (s.dist i) (s.long i))) (s.starts i p)
        (start_sound T (x.from i) (x.to i) (s.dist i) (s.long i) (A.leaves i p) (A.ends i p) (s.is_d i p) (s.named i p))

    begin-inv : (ss : List Slot) → Begun (λ i t. t ≡ s.first i) x.count ss → Inv s k (begin ss)
    begin-inv ss B = record {
      each = λ i p. record { sound = rw (B.each i p) (first-sound i p); grown = omega (arith, ap (λ (t : Trail). t.low) (B.each i p)); shrunk = omega (arith, ap (λ (t : Trail). t.high) (B.each i p)) };
      touched = λ i p n. absurd (omega (arith, ap (λ (t : Trail). t.stages) (B.each i p), first-fresh i p));
      last = λ e. absurd (omega (arith, A.one));
      lines = λ a p. absurd (omega arith);
      after = λ a p. absurd (omega arith);
      sorted = λ b p. absurd (omega arith);
      shown = λ a p. absurd (omega arith);
      found = λ j p w. true_false (B.waits j p) w;
    }

    listing-inv : Holds (Ended m.places x.count k (Inv s k)) (listing m x k)
    listing-inv =
        listing_on m x (λ n. ⊥) (λ i t. t ≡ s.first i) (Inv s k) k A.enough (λ i p. rw (s.starts i p) refl) begin-inv
        (step_inv L T s A.ends (λ i p. named_lt L T (x.from i) (x.to i) (s.long i) (A.leaves i p) (A.ends i p) (s.named i p)) k A.enough)

module _ {m : Map} {x : Quest} {k : ℕ} (s : Seen m x) (st : State) (E : Ended m.places x.count k (Inv s k) st) where
  abbrev inv : Inv s k st
  inv = E.holds

  ended-nearest : Nearest s k st
  ended-nearest = record {
    count = E.count;
    office = λ a p. (inv.lines a (there p)).office;
    low = λ a p. (inv.lines a (there p)).low;
    high = λ a p. (inv.lines a (there p)).high;
    gazetteer = λ a p. ap (λ (l : Line). l.gazetteer) (inv.shown a (there p));
    order = λ a b p h. inv.sorted b (there h) a p;
    rest = λ j h out a p. inv.after a (there p) j h (waits j h out (at st.slots j).waits refl);
    shown = λ a p. inv.shown a (there p);
  }
    where
      there : {a : ℕ} → a < k → a < length st.lines
      there p = omega (arith, E.count)

      waits : (j : ℕ) → j < x.count → ((a : ℕ) → a < k → number_on st a ≡ j → ⊥) → (b : Bool) → (at st.slots j).waits ≡ b → (at st.slots j).waits ≡ true
      waits j h out true e = e
      waits j h out false e = let (a, p, n) = inv.found j h e in absurd (out a (omega (arith, E.count)) n)

  ended-thrifty : Thrifty s k st
  ended-thrifty = record {
    counted = E.fair.counted;
    raised = λ i p. (inv.each i p).grown;
    lowered = λ i p. (inv.each i p).shrunk;
    untouched = untouched;
    walked = walked;
    total = omega (arith, E.fair.counted, sum_mono (λ i. (trail_of st i).stages) due x.count (λ i p. within i p (ltb far (s.first i).low) refl));
  }
    where
      far : ℕ
      far = s.dist (number_on st (k - 1))

      due : ℕ → ℕ
      due i = elim (ltb far (s.first i).low) [ true ↦ 0 | false ↦ s.long i ]

      walked : (i : ℕ) → i < x.count → (trail_of st i).stages ≤ s.long i
      walked i p = omega (arith, (inv.each i p).sound.count)

      untouched : (i : ℕ) → i < x.count → far < (s.first i).low → (trail_of st i).stages ≡ 0
      untouched i p h = go (ℕ_discrete (trail_of st i).stages 0)
        where
          go : Dec ((trail_of st i).stages ≡ 0) → (trail_of st i).stages ≡ 0
          go (yes e) = e
          go (no e) = absurd (omega (arith, inv.last E.count i p (omega arith)))

      within : (i : ℕ) → i < x.count → (b : Bool) → ltb far (s.first i).low ≡ b → (trail_of st i).stages ≤ elim b [ true ↦ 0 | false ↦ s.long i ]
      within i p true e = omega (arith, untouched i p (ltb-true far (s.first i).low e))
      within i p false e = walked i p

module _ {m : Map} {x : Quest} {k : ℕ} (L : LaidOut m) (T : Truth m) (A : Asked m x k) where
  pub answered : (st : State) × (listing m x k ≡ served st) × ((s : Seen m x) → Nearest s k st × Thrifty s k st)
  answered =
      let (st, e, E) = taken (Ended m.places x.count k (Inv (seen L T A) k)) (listing m x k) (listing-inv L T A (seen L T A)) in
      (st, e, λ s. let D : Ended m.places x.count k (Inv s k) st = subst (Holds (Ended m.places x.count k (Inv s k))) e (listing-inv L T A s) in (ended-nearest s st D, ended-thrifty s st D))
