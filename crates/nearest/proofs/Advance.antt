-- One step of the code is one step of the definitions, on a map of so many places, for a quest of n offices.
use Prim.Native.Nat.{ℕ, ◌<◌}
use native.Mathlib.Omega.{arith}
use mathlib.Core.Path.{◌≡◌, sym, subst, ◌∙◌}
use mathlib.Core.Bool.{true, false}
use mathlib.Core.List.{List}
use Rattle.paper.specs.Served.{served, refused}
use Rattle.paper.specs.Map.{Map}
use Rattle.paper.specs.Quest.{Quest}
use Rattle.paper.specs.Trail.{Trail, refine}
use Rattle.paper.specs.Listing.{Slot, State, refined, step}
use Rattle.paper.specs.Bounds.{Sane}
use Rattle.paper.specs.declared.Counts.{Counts}
use Rattle.paper.proofs.Bounds.{refine_sane}
use Rattle.sheet.specs.Ground.{Ground, Charted}
use Rattle.quadtree.proofs.Charts.{laid}
use Rattle.quadtree.proofs.Words.{standing}
use Rattle.quadtree.specs.Walks.{trail_of}
use Rattle.nearest.specs.declared.tree.Lead.{Lead}
use Rattle.nearest.specs.Working.{Shown}
use Rattle.nearest.specs.Going.{Led, OneOut, ListedNow, WalkedNow}
use Rattle.nearest.proofs.Steps.{step-listed, step_walked, step_refused}

-- the working slice shows the same slots, by other names of its two numbers
pub shown_as : {places places' n n' : ℕ} {w : List ℕ} {ss : List Slot} → places ≡ places' → n ≡ n' → Shown places n w ss → Shown places' n' w ss
shown_as {places} {places'} {n} {n'} {w} {ss} p e S = subst (λ (k : ℕ). Shown places' k w ss) e (subst (λ (k : ℕ). Shown k n w ss) p S)

module _ (m : Map) (x : Quest) (places n : ℕ) (p : places ≡ m.places) (same : n ≡ x.count) (st : State) (w : List ℕ) (l : Lead) (led : Led places n st.slots w l) where
  abbrev i : ℕ
  i = l.number

  by_count : Led places x.count st.slots w l
  by_count = subst (λ (k : ℕ). Led places k st.slots w l) same led

  pub advance_listed : l.clear ≡ true → ListedNow m x st w i (trail_of l.trail)
  advance_listed e = record {
    stepped = step-listed m x st i by_count.leads (sym by_count.alone ∙ e);
    trail = by_count.trail;
    here = by_count.here;
    shown = shown_as p same led.shown;
  }

  module _ (e : l.clear ≡ false) (v : ℕ) (sought : v ≡ x.to i) where
    pub advance-walked : (t : Trail) → refine m v (trail_of l.trail) ≡ served t → (w' : List ℕ) → Shown places n w' (refined st.slots i t) → WalkedNow m x st w'
    advance-walked t r w' S = record {
      number = i;
      trail = t;
      stepped = step_walked m x st i by_count.leads (sym by_count.alone ∙ e) t (rw (by_count.trail, sym sought) r);
      shown = shown_as p same S;
    }

    pub advance-refused : (y : ℕ) → refine m v (trail_of l.trail) ≡ refused y → step m x st ≡ refused y
    advance-refused y r = step_refused m x st i by_count.leads (sym by_count.alone ∙ e) y (rw (by_count.trail, sym sought) r)

-- the leader that was taken out can be put back
pub one_out : {places n : ℕ} {ss : List Slot} {w : List ℕ} {l : Lead} → Led places n ss w l → (t : Trail) → Sane places t → OneOut n l.number w t
one_out {places} {n} {ss} L t S = record { places = places; slots = ss; here = L.here; shown = L.shown; sane = S }

-- on a map that has the ground as many places are counted, and a trail of it stays sane
module _ {g first heads lengths : List ℕ} {c : Counts} {m : Map} (G : Ground g c) (C : Charted g first heads lengths m) where
  pub counted : c.places ≡ m.places
  counted = (standing G).places ∙ sym C.ground.places

  pub refined_sane : (v : ℕ) → v < c.places → (t t' : Trail) → Sane c.places t → served t' ≡ refine m v t → Sane c.places t'
  refined_sane v p t t' S e =
      subst (λ (n : ℕ). Sane n t') (sym counted) (refine_sane (laid C) v (omega (arith, counted)) t t' (subst (λ (n : ℕ). Sane n t) counted S) (sym e))
