-- The first intervals, office by office: the slots so far, a refusal, and the working slice once all stand in it.
use Prim.Native.Nat.{ℕ, zero, suc, ◌+◌, ◌*◌, ◌≤◌, ◌<◌}
use native.Mathlib.Omega.{arith}
use mathlib.Core.Path.{◌≡◌, refl, sym, ap, subst, ◌∙◌}
use mathlib.Core.Bool.{true}
use mathlib.Core.List.{List, [], ◌∷◌, ◌++◌}
use lib.ListN.{length, set, length-append, get_or-append}
use lib.Seq.{get_or-set_same, get_or-set_other, get_or_at}
use Rattle.mintree.specs.Mintree.{Played, Same}
use Rattle.paper.specs.Sizes.{most_offices, slot_words}
use Rattle.paper.specs.Served.{Served, refused, served, and_then}
use Rattle.paper.specs.Map.{Map}
use Rattle.paper.specs.Quest.{Quest}
use Rattle.paper.specs.Trail.{Trail, start}
use Rattle.paper.specs.Listing.{Slot, no_slot, at, starts, begin, run, enough, listing}
use Rattle.paper.specs.Bounds.{Sane}
use Rattle.paper.proofs.Count.{below_suc, below_all}
use Rattle.paper.proofs.Test.{true_false}
use Rattle.paper.proofs.LaidOut.{Grounded}
use Rattle.nearest.specs.Working.{tree_at, key, Side, Stored, Held, Shown}
use Rattle.paper.proofs.Holds.{given}
use Rattle.paper.proofs.Walk.{Walk, walk_start}
use Rattle.paper.proofs.Bounds.{start_sane}
use Rattle.nearest.specs.Going.{StartedNow, StartedAll}
use Rattle.nearest.proofs.Hold.{side_same, stored_side, stored_key}

module _ (m : Map) (x : Quest) where
  abbrev n : ℕ
  n = x.count

  -- the first i offices have their first intervals
  pub record Prefix (i : ℕ) (w : List ℕ) : Type 0 where
    pub slots : List Slot
    pub begun : starts m x i ≡ served slots
    pub size : length slots ≡ i
    pub waits : (j : ℕ) → j < i → (at slots j).waits ≡ true
    pub fresh : (j : ℕ) → j < i → (at slots j).trail.stages ≡ 0
    pub held : (j : ℕ) → j < i → Held w n j (at slots j).trail
    pub sane : (j : ℕ) → j < i → Sane m.places (at slots j).trail

  pub prefix_none : (w : List ℕ) → Prefix 0 w
  unfolding starts
  prefix_none w = record {
    slots = [];
    begun = refl;
    size = refl;
    waits = λ j p. absurd (omega arith);
    fresh = λ j p. absurd (omega arith);
    held = λ j p. absurd (omega arith);
    sane = λ j p. absurd (omega arith);
  }

  starts-next : (i : ℕ) (ss : List Slot) → starts m x i ≡ served ss → starts m x (suc i) ≡ and_then (start m (x.from i) (x.to i)) (λ t. served (ss ++ (record { trail = t; waits = true } ∷ [])))
  unfolding starts
  starts-next i ss e = ap (λ (r : Served (List Slot)). and_then r (λ ss. and_then (start m (x.from i) (x.to i)) (λ t. served (ss ++ (record { trail = t; waits = true } ∷ []))))) e

  starts-stay : (i k e : ℕ) → starts m x i ≡ refused e → i ≤ k → starts m x k ≡ refused e
  unfolding starts
  starts-stay i zero e h p = let z : i ≡ 0 = omega arith in rw z at h
  starts-stay i (suc k) e h p = below_suc (starts m x (suc k) ≡ refused e) i (suc k) (omega arith) (λ z. rw z at h) (λ l. rw (starts-stay i k e h (omega arith)))

  module _ {i : ℕ} {w : List ℕ} (P : Prefix i w) (p : i < n) where
    pub prefix-refused : (e : ℕ) → start m (x.from i) (x.to i) ≡ refused e → starts m x n ≡ refused e
    prefix-refused e r =
        starts-stay (suc i) n e (starts-next i P.slots P.begun ∙ ap (λ (r : Served Trail). and_then r (λ t. served (P.slots ++ (record { trail = t; waits = true } ∷ [])))) r) (omega arith)

    pub prefix-more : (t : Trail) → start m (x.from i) (x.to i) ≡ served t → t.stages ≡ 0 → Sane m.places t → (w₁ : List ℕ) → slot_words * n ≤ length w → Stored i t w w₁
        → Prefix (suc i) (set w₁ (tree_at n + (n + i)) (key t.low i))
    prefix-more t r z s w₁ long X = record {
      slots = ss';
      begun = starts-next i P.slots P.begun ∙ ap (λ (r : Served Trail). and_then r (λ t. served (P.slots ++ (record { trail = t; waits = true } ∷ [])))) r;
      size = omega (arith, length-append P.slots (y ∷ []), P.size);
      waits = below_all (λ j. (at ss' j).waits ≡ true) i (λ j l. rw (old j l) (P.waits j l)) (rw new refl);
      fresh = below_all (λ j. (at ss' j).trail.stages ≡ 0) i (λ j l. rw (old j l) (P.fresh j l)) (rw new z);
      held = below_all (λ j. Held w₂ n j (at ss' j).trail) i (λ j l. rw (old j l) (kept j l (P.held j l))) (rw new here);
      sane = below_all (λ j. Sane m.places (at ss' j).trail) i (λ j l. rw (old j l) (P.sane j l)) (rw new s);
    }
      where
        w₂ : List ℕ
        w₂ = set w₁ (tree_at n + (n + i)) (key t.low i)

        y : Slot
        y = record { trail = t; waits = true }

        ss' : List Slot
        ss' = P.slots ++ (y ∷ [])

        old : (j : ℕ) → j < i → at ss' j ≡ at P.slots j
        old j l = get_or-append P.slots (y ∷ []) no_slot j (omega (arith, P.size))

        new : at ss' i ≡ y
        new = get_or_at P.slots y [] no_slot i P.size

        below : (j : ℕ) (r : Trail) → j < n → Side w₁ j r → Side w₂ j r
        below j r l = side_same (λ k a b. get_or-set_other w₁ (tree_at n + (n + i)) k (key t.low i) 0 (omega arith))

        kept : (j : ℕ) → j < i → Held w n j (at P.slots j).trail → Held w₂ n j (at P.slots j).trail
        kept j l H = record {
          side = below j _ (omega arith) (stored_side X j _ (omega arith) H.side);
          low = get_or-set_other w₁ (tree_at n + (n + i)) (tree_at n + (n + j)) (key t.low i) 0 (omega arith) ∙ stored_key X n j p ∙ H.low;
        }

        here : Held w₂ n i t
        here = record { side = below i t p X.side; low = get_or-set_same w₁ (tree_at n + (n + i)) (key t.low i) 0 (omega (arith, X.long)) }

  -- once the tree is built over them, the working slice shows them
  module _ {w : List ℕ} (P : Prefix n w) (few : n ≤ most_offices) (long : slot_words * n ≤ length w) (w' : List ℕ) (C : Same (tree_at n) n w w') (Y : Played w' (tree_at n) n) where
    pub prefix-shown : Shown m.places x.count w' P.slots
    prefix-shown = record {
      few = few;
      long = omega (arith, C.long);
      size = P.size;
      played = Y;
      held = λ j l e. record {
        side = side_same (λ k a b. C.before k (omega arith)) (P.held j l).side;
        low = C.after (tree_at n + (n + j)) (omega arith) ∙ (P.held j l).low;
      };
      sane = λ j l e. P.sane j l;
      left = λ j l e. true_false (P.waits j l) e;
    }

fresh_stages : (m : Map) (u v : ℕ) (t : Trail) → start m u v ≡ served t → t.stages ≡ 0
fresh_stages m u v t e = given Walk (λ t. t.stages ≡ 0) (start m u v) t e (walk_start m u v)

-- office i, whose first trail stands in the slice
pub started_now : {m : Map} → Grounded m → (x : Quest) (i u v : ℕ) (w w₁ : List ℕ) (t : Trail) (at y : ℕ) → u < m.places → v < m.places → u ≡ x.from i → v ≡ x.to i
    → start m u v ≡ served t → Stored i t w w₁ → at ≡ tree_at x.count + (x.count + i) → y ≡ key t.low i → StartedNow m x i w (set w₁ at y)
started_now {m} G x i u v w w₁ t at y p p' d e r X a k = record {
  trail = t;
  begun = rw (sym d, sym e) r;
  sane = start_sane G u v t p p' r;
  side = w₁;
  stored = X;
  written = rw (a, k);
}

pub prefix_next : (m : Map) (x : Quest) {i : ℕ} {w : List ℕ} → Prefix m x i w → i < x.count → slot_words * x.count ≤ length w
    → (w' : List ℕ) → StartedNow m x i w w' → Prefix m x (i + 1) w'
prefix_next m x {i} {w} P p long w' S =
    let e : i + 1 ≡ suc i = omega arith in
    rw (e, S.written) (prefix-more m x P p S.trail S.begun (fresh_stages m (x.from i) (x.to i) S.trail S.begun) S.sane S.side long S.stored)

-- every first interval stands in the slice, and the tree is built; the code counts n offices
pub started_all : (m : Map) (x : Quest) (n i : ℕ) (w : List ℕ) → n ≡ x.count → i ≡ n → Prefix m x i w → n ≤ most_offices → slot_words * n ≤ length w
    → (w' : List ℕ) → Same (tree_at n) n w w' → Played w' (tree_at n) n → StartedAll m x w'
started_all m x n i w e z P few long w' C Y =
    let here : Prefix m x x.count w = subst (λ (k : ℕ). Prefix m x k w) (z ∙ e) P in
    let C' : Same (tree_at x.count) x.count w w' = subst (λ (k : ℕ). Same (tree_at k) k w w') e C in
    let Y' : Played w' (tree_at x.count) x.count = subst (λ (k : ℕ). Played w' (tree_at k) k) e Y in
    record {
      begun = record {
        slots = here.slots;
        shown = prefix-shown m x here (omega arith) (omega arith) w' C' Y';
        fresh = record { waits = here.waits; none = here.fresh };
      };
      starts = here.begun;
    }

-- the listing, by what the first intervals come to
module _ (m : Map) (x : Quest) (k : ℕ) where
  pub listing_refused : (e : ℕ) → starts m x x.count ≡ refused e → listing m x k ≡ refused e
  unfolding listing
  listing_refused e r = rw r

  pub listing_started : (ss : List Slot) → starts m x x.count ≡ served ss → listing m x k ≡ run m x (enough m x k) k (begin ss)
  unfolding listing
  listing_started ss r = rw r
