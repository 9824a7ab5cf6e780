-- On a true map each step of a listing keeps the invariant.
use Prim.Native.Nat.{ℕ, ◌-◌, ◌≤◌, ◌<◌}
use native.Mathlib.Omega.{arith}
use mathlib.Core.Path.{◌≡◌, refl, sym, ap, ◌∙◌}
use mathlib.Core.Bool.{true, false}
use mathlib.Core.List.{List, [], ◌∷◌, ◌++◌}
use lib.ListN.{length, get_or-append}
use lib.Seq.{get_or-append_seam}
use Rattle.paper.specs.Order.{Before}
use Rattle.paper.specs.Map.{Map}
use Rattle.paper.specs.Quest.{Quest}
use Rattle.paper.specs.Truth.{Truth}
use Rattle.paper.proofs.LaidOut.{LaidOut}
use Rattle.paper.specs.Trail.{Trail, refine}
use Rattle.paper.specs.Listing.{Slot, Line, State, no_line, at, low_of, line_at, line_of, leader, retired, refined, clear, listed, walked_on, step}
use Rattle.paper.specs.Answer.{Seen, number_on}
use Rattle.paper.proofs.Holds.{Holds, on_map, joined}
use Rattle.paper.proofs.Walk.{Walk, Finer, walk_refine}
use Rattle.paper.proofs.Sound.{Sound, refine_sound}
use Rattle.paper.proofs.Leader.{Leads}
use Rattle.paper.proofs.Slots.{set_all, snoc_all, snoc_length, retired_trail, retired_waits, clear_true, clear_false}
use Rattle.paper.proofs.Fair.{Fair, inside, step_on}
use Rattle.paper.proofs.Inv.{Ok, LineOk, Nearer, Inv}

module _ {m : Map} {x : Quest} (F : Seen m x) (k : ℕ) (st : State) (I : Inv F k st) (i : ℕ) (L : Leads st.slots x.count i) (h : i < length st.slots) where
  abbrev ss : List Slot
  ss = st.slots

  abbrev t : Trail
  t = (at ss i).trail

  -- the leader is listed
  listed-inv : clear ss i (leader (retired ss i) x.count) ≡ true → Inv F k (listed m x st i)
  listed-inv c = record {
    each = set_all (λ j s. j < x.count → Ok F j s) ss i y h
        (λ p. record { sound = (I.each i p).sound; grown = (I.each i p).grown; shrunk = (I.each i p).shrunk }) (λ j e. I.each j);
    touched = λ j p n l g w. I.touched j p (omega (arith, stages j)) l g (waits l w).0;
    last = λ e j p n.
        let back : k - 1 ≡ length st.lines = omega (arith, snoc_length st.lines new_line) in
        rw (back, number) (I.touched j p (omega (arith, stages j)) i L.here L.waits);
    lines = snoc_all (λ a l. LineOk F l) st.lines new_line I.lines (record {
      office = L.here;
      low = (I.each i L.here).sound.low;
      high = (I.each i L.here).sound.high;
    });
    after = snoc_all (λ a l. (j : ℕ) → j < x.count → (at ss' j).waits ≡ true → Nearer F l.number j) st.lines new_line
        (λ a p j g w. I.after a p j g (waits j w).0) new;
    sorted = snoc_all (λ b l. (a : ℕ) → a < b → Nearer F (line_at ls' a).number l.number) st.lines new_line
        (λ b p a g. rw (old a (omega arith)) (I.sorted b p a g))
        (λ a g. rw (old a g) (I.after a g i L.here L.waits));
    shown = snoc_all (λ a l. l ≡ line_of m x l.number (at ss' l.number).trail) st.lines new_line
        (λ a p. I.shown a p ∙ ap (line_of m x (number_on st a)) (sym (retired_trail ss i h (number_on st a))))
        (ap (line_of m x i) (sym (retired_trail ss i h i)));
    found = set_all (λ j s. j < x.count → s.waits ≡ false → (a : ℕ) × (a < length ls') × ((line_at ls' a).number ≡ j)) ss i y h
        (λ p w. (length st.lines, omega (arith, snoc_length st.lines new_line), number))
        (λ j e p w. let (a, g, n) = I.found j p w in (a, omega (arith, snoc_length st.lines new_line), rw (old a g) n));
  }
    where
      new_line : Line
      new_line = line_of m x i t

      y : Slot
      y = record { trail = t; waits = false }

      ss' : List Slot
      ss' = retired ss i

      ls' : List Line
      ls' = st.lines ++ (new_line ∷ [])

      old : (a : ℕ) → a < length st.lines → line_at ls' a ≡ line_at st.lines a
      old = get_or-append st.lines (new_line ∷ []) no_line

      number : number_on (listed m x st i) (length st.lines) ≡ i
      number = ap (λ (l : Line). l.number) (get_or-append_seam st.lines new_line [] no_line)

      stages : (j : ℕ) → (at ss' j).trail.stages ≡ (at ss j).trail.stages
      stages j = ap (λ (r : Trail). r.stages) (retired_trail ss i h j)

      waits : (j : ℕ) → (at ss' j).waits ≡ true → ((at ss j).waits ≡ true) × (j ≡ i → ⊥)
      waits = retired_waits ss i h

      -- the theorem's heart: (D, i) ≤ (high, i) < (low of j, j) ≤ (D of j, j)
      new : (j : ℕ) → j < x.count → (at ss' j).waits ≡ true → Nearer F i j
      new j g w =
          let B : Before t.high i (low_of ss j) j = clear_true ss i h x.count c j g w in
          let S : Sound m (x.to i) (F.dist i) (F.long i) t = (I.each i L.here).sound in
          let R : Sound m (x.to j) (F.dist j) (F.long j) (at ss j).trail = (I.each j g).sound in
          record { le = omega arith; tie = λ e. B.tie (omega arith) }

  -- the leader is refined
  refined-inv : length st.lines < k → (t' : Trail) → Sound m (x.to i) (F.dist i) (F.long i) t' → Finer m t t' → Inv F k (walked_on st i t')
  refined-inv lt t' S N = record {
    each = set_all (λ j s. j < x.count → Ok F j s) ss i y h
        (λ p. record { sound = S; grown = omega (arith, (I.each i p).grown); shrunk = omega (arith, (I.each i p).shrunk) }) (λ j e. I.each j);
    touched = set_all (λ j s. j < x.count → 1 ≤ s.trail.stages → (l : ℕ) → l < x.count → (at ss' l).waits ≡ true → (F.first j).low ≤ F.dist l) ss i y h
        (λ p n l g w. omega (arith, (I.each i p).grown, (L.least l g (sym (waits l) ∙ w)).le, (I.each l g).sound.low))
        (λ j e p n l g w. I.touched j p n l g (sym (waits l) ∙ w));
    last = λ e. absurd (omega arith);
    lines = I.lines;
    after = λ a p j g w. I.after a p j g (sym (waits j) ∙ w);
    sorted = I.sorted;
    shown = λ a p. I.shown a p ∙ ap (line_of m x (number_on st a)) (sym (kept (number_on st a) (I.after a p i L.here L.waits)));
    found = λ j p w. I.found j p (sym (waits j) ∙ w);
  }
    where
      y : Slot
      y = record { trail = t'; waits = true }

      ss' : List Slot
      ss' = refined ss i t'

      waits : (j : ℕ) → (at ss' j).waits ≡ (at ss j).waits
      waits = set_all (λ j s. s.waits ≡ (at ss j).waits) ss i y h (sym L.waits) (λ j e. refl)

      kept : (j : ℕ) → Nearer F j i → (at ss' j).trail ≡ (at ss j).trail
      kept = set_all (λ j s. Nearer F j i → s.trail ≡ (at ss j).trail) ss i y h (λ b. absurd (omega (arith, b.tie (omega arith)))) (λ j e b. refl)

pub step_inv : {m : Map} {x : Quest} → LaidOut m → Truth m → (F : Seen m x)
    → ((i : ℕ) → i < x.count → x.to i < m.places) → ((i : ℕ) → i < x.count → F.long i < m.places)
    → (k : ℕ) → k ≤ x.count → (st : State) → Fair m.places x.count st → Inv F k st → length st.lines < k → Holds (Inv F k) (step m x st)
step_inv {m} {x} L T F stands fewer k most st E I lt =
    step_on m x (λ n. ⊥) (Inv F k) st E (omega arith)
    (λ i D c. listed-inv F k st I i D (inside m x st E i D) c)
    (λ i D c.
    let t : Trail = (at st.slots i).trail in
    let v : ℕ = x.to i in
    let h : i < length st.slots = inside m x st E i D in
    let S : Trail → Type 0 = Sound m v (F.dist i) (F.long i) in
    on_map (λ n. ⊥) (λ t'. S t' × Finer m t t') (λ t'. Inv F k (walked_on st i t')) (refine m v t)
    (joined (λ n. ⊥) Walk S (Finer m t) (refine m v t)
    (refine_sound L T v (F.dist i) (F.long i) t (stands i D.here) (fewer i D.here) (clear_false st.slots i h x.count D c) (I.each i D.here).sound)
    (walk_refine m v t))
    (λ t' g. refined-inv F k st I i D h lt t' g.0 g.1))
