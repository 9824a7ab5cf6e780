-- After the layout rules no number of a walk is too large: each is bounded by where the walk stands, and no test is needed.
use Prim.Native.Nat.{ℕ, ◌+◌, ◌≤◌, ◌<◌}
use native.Mathlib.Omega.{arith}
use mathlib.Core.Path.{◌≡◌, refl}
use mathlib.Core.Bool.{true}
use mathlib.Core.Option.{Option, some, none}
use mathlib.Core.List.{List}
use lib.Dec.{ltb}
use lib.ListN.{length}
use borrow.Author.Tests.{leb-true, ltb-true}
use Rattle.paper.specs.Sizes.{most_places, most_furlongs, road_most}
use Rattle.paper.specs.Served.{served}
use Rattle.paper.specs.Map.{Map}
use Rattle.paper.specs.Sheet.{map_of}
use Rattle.paper.specs.Stage.{stage_of}
use Rattle.paper.specs.Block.{block_of}
use Rattle.paper.specs.Layout.{Bytes, layout}
use Rattle.paper.specs.Quest.{Quest}
use Rattle.paper.specs.Trail.{Ends, between, Trail, ordered, tested, fresh, start, onward, onward_by, refine}
use Rattle.paper.specs.Listing.{State, at, line_at, line_of, walked_on, step, listing}
use Rattle.paper.specs.Answer.{Asked}
use Rattle.paper.specs.Bounds.{Bounded, Met, first, next, Sane, Summed, WalkWithin, LineWithin, ListedWithin}
use Rattle.paper.proofs.LaidOut.{Grounded, LaidOut}
use Rattle.paper.proofs.Holds.{On, Any, on_if, on_then, on_map, on_itself, given}
use Rattle.paper.proofs.Block.{named_under}
use Rattle.paper.proofs.Ends.{between_bounded}
use Rattle.paper.proofs.Count.{sum_most_lem}
use Rattle.paper.proofs.Slots.{set_all, snoc_all, retired_trail}
use Rattle.paper.proofs.Fair.{Fair, Ended, inside, step_on, listing_on}
use Rattle.paper.proofs.Laid.{laid_out}

-- the stages are fewer than the places, and each is at most so long
walked_most : {n : ℕ} {t : Trail} → n ≤ most_places → Sane n t → t.walked ≤ road_most
walked_most few S = omega (arith, S.walked, S.stages)

-- what a refinement adds up, from a trail that may be refined by a stage of that length
pub sums : {n length : ℕ} {t : Trail} {e : Ends} → n ≤ most_places → Sane n t → t.stages + 1 < n → length ≤ most_furlongs → Bounded e → Summed (t.walked + length) e
sums few S early short B = omega (arith, S.walked, B.low, B.high)

-- a trail that passes the test is sane, if but for the order of its ends it was
tested_sane : (n : ℕ) (t : Trail) → (t.low ≤ t.high → Sane n t) → On Any (Sane n) (tested t)
tested_sane n t s = on_if Any (Sane n) (ordered t) _ _ (λ e. s (leb-true _ _ e)) (λ e. tt)

pub start_sane : {m : Map} → Grounded m → (u v : ℕ) (t : Trail) → u < m.places → v < m.places → start m u v ≡ served t → Sane m.places t
unfolding start
start_sane {m} G u v t p q e =
    given Any (Sane m.places) (start m u v) t e
    (on_then Any Bounded (Sane m.places) (between m u v) _ (between_bounded G u v p q)
    (λ x B. tested_sane m.places (fresh u x) (λ o. record { via = p; stages = omega arith; walked = omega arith; ordered = o; high = B.high })))

pub refine_sane : {m : Map} → LaidOut m → (v : ℕ) → v < m.places → (t t' : Trail) → Sane m.places t → refine m v t ≡ served t' → Sane m.places t'
unfolding refine
refine_sane {m} L v hv t t' S e =
    given Any (Sane m.places) (refine m v t) t' e
    (on_if Any (Sane m.places) (ltb (t.stages + 1) m.places) _ _ (λ p. go (block_of m t.via v) refl (ltb-true _ _ p)) (λ p. tt))
  where
    go : (r : Option ℕ) → block_of m t.via v ≡ r → t.stages + 1 < m.places → On Any (Sane m.places) (onward_by m v t r)
    go none f p = tt
    go (some b) f p =
        let i : ℕ = stage_of m t.via (m.colour b) in
        let under : i < m.stages = named_under L t.via v b f in
        on_then Any Bounded (Sane m.places) (between m (m.head i) v) _ (between_bounded L.ground (m.head i) v (L.heads i under) hv)
        (λ x _. tested_sane m.places (onward m i t x) (λ o. record {
          via = L.heads i under;
          stages = p;
          walked = omega (arith, S.walked, L.short i under);
          ordered = o;
          high = omega (arith, S.high);
        }))

-- a walk between two places of a map that keeps the rules
module _ {m : Map} (L : LaidOut m) (u v : ℕ) (hu : u < m.places) (hv : v < m.places) where
  met-sane : (t : Trail) → Met m u v t → Sane m.places t
  met-sane t (first e) = start_sane L.ground u v t hu hv e
  met-sane t (next {t = s} p e) = refine_sane L v hv s t (met-sane s p) e

  pub walk_within : WalkWithin m u v
  walk_within = record {
    ends = λ e q. given Any Bounded (between m u v) e q (between_bounded L.ground u v hu hv);
    trails = met-sane;
    walked = λ t p. walked_most L.ground.places (met-sane t p);
    sums = λ t p early b covered e ends.
        let i : ℕ = stage_of m t.via (m.colour b) in
        let under : i < m.stages = named_under L t.via v b covered in
        sums L.ground.places (met-sane t p) early (L.short i under) (given Any Bounded (between m (m.head i) v) e ends (between_bounded L.ground (m.head i) v (L.heads i under) hv));
  }

-- the listing of a quest between places of such a map: each step keeps its trails and its lines within
module _ {m : Map} {x : Quest} {k : ℕ} (L : LaidOut m) (A : Asked m x k) where
  -- trails and lines on the way; the total follows from the stages walked
  record Underway (st : State) : Type 0 where
    trails : (i : ℕ) → i < x.count → Met m (x.from i) (x.to i) (at st.slots i).trail
    lines : (a : ℕ) → a < length st.lines → LineWithin m x (line_at st.lines a)

  line-within : (i : ℕ) → i < x.count → (t : Trail) → Met m (x.from i) (x.to i) t → LineWithin m x (line_of m x i t)
  line-within i p t M =
      let S : Sane m.places t = met-sane L (x.from i) (x.to i) (A.leaves i p) (A.ends i p) t M in
      record { office = p; ordered = S.ordered; high = S.high; stages = S.stages; gazetteer = L.gazetteer (x.stand i) (A.stands i p) }

  keeps : (st : State) → Fair m.places x.count st → Underway st → length st.lines < k → On Any Underway (step m x st)
  keeps st F G lt =
      step_on m x Any Underway st F (omega (arith, A.enough))
      (λ i D c. record {
        trails = λ j p. rw (retired_trail st.slots i (inside m x st F i D) j) (G.trails j p);
        lines = snoc_all (λ a l. LineWithin m x l) st.lines (line_of m x i (at st.slots i).trail) G.lines (line-within i D.here (at st.slots i).trail (G.trails i D.here));
      })
      (λ i D c. let t : Trail = (at st.slots i).trail in
      on_map Any (λ t'. refine m (x.to i) t ≡ served t') (λ t'. Underway (walked_on st i t')) (refine m (x.to i) t) (on_itself (refine m (x.to i) t)) (λ t' e. record {
        trails = set_all (λ j s. j < x.count → Met m (x.from j) (x.to j) s.trail) st.slots i (record { trail = t'; waits = true }) (inside m x st F i D)
            (λ p. next (G.trails i p) e) (λ j ne. G.trails j);
        lines = G.lines;
      }))

  pub listing_within : On Any (ListedWithin m x) (listing m x k)
  listing_within =
      on_map Any (Ended m.places x.count k Underway) (ListedWithin m x) (listing m x k)
      (listing_on m x Any (λ i t. Met m (x.from i) (x.to i) t) Underway k A.enough
      (λ i p. on_map Any (λ t. start m (x.from i) (x.to i) ≡ served t) (Met m (x.from i) (x.to i)) (start m (x.from i) (x.to i)) (on_itself (start m (x.from i) (x.to i))) (λ t e. first e))
      (λ ss B. record { trails = B.each; lines = λ a p. absurd (omega arith) })
      keeps)
      (λ st E. record {
        trails = E.holds.trails;
        lines = E.holds.lines;
        total = omega (arith, E.fair.counted, sum_most_lem (λ i. (at st.slots i).trail.stages) x.count m.places E.fair.within);
      })

-- the same of a sheet that the layout rules pass
pub sheet_within : (s : List ℕ) → Bytes s → layout s ≡ 0 → (u v : ℕ) → u < (map_of s).places → v < (map_of s).places → WalkWithin (map_of s) u v
sheet_within s bytes h = walk_within (laid_out s bytes h)
