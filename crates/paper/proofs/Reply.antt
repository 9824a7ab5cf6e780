-- The question on an accepted sheet, and its slices on any sheet.
use Prim.Native.Nat.{ℕ, zero, suc, ◌+◌, ◌*◌, ◌/◌, ◌%◌, ◌≤◌, ◌<◌}
use native.Mathlib.Omega.{arith}
use native.Mathlib.Nat.{mul-le-mul}
use mathlib.Core.Path.{◌≡◌, refl, sym, ap, subst, ◌∙◌}
use mathlib.Core.Bool.{Bool, true}
use mathlib.Core.List.{List, [], ◌∷◌, ◌++◌}
use lib.Dec.{leb, ltb}
use lib.ListN.{length, get_or, drop, length-append, length-drop, get_or-append}
use lib.Seq.{get_or-drop, drop-append_seam}
use borrow.Author.Tests.{leb-true, ltb-true}
use Rattle.paper.specs.Sizes.{line_words, slot_words, most_offices, end_below}
use Rattle.paper.specs.Test.{both, due, or_else}
use Rattle.paper.specs.Served.{Served, refused, served}
use Rattle.paper.specs.Map.{Map, Offices}
use Rattle.paper.specs.Sheet.{map_of, offices_of}
use Rattle.paper.proofs.LaidOut.{LaidOut}
use Rattle.paper.specs.Quest.{Quest, is_direction, directed}
use Rattle.paper.specs.Layout.{Bytes, layout, offices_hold}
use Rattle.paper.specs.Verdict.{AcceptedOn, Accepted}
use Rattle.paper.specs.Listing.{Line, State, line_at, listing}
use Rattle.paper.specs.Answer.{Asked}
use Rattle.paper.specs.Bounds.{LineWithin, ListedWithin, WordsBelow}
use Rattle.paper.specs.Reply.{Reply, invalid, ValidOn, Valid, line_out, lines_out, walk_out, reply_by, reply_on, reply, end_of, ended_on, quest_of, AnsweredOn, Answered}
use Rattle.paper.proofs.Holds.{On, Any}
use Rattle.paper.proofs.Test.{both_left, both_right, due_true, or_left, or_right, or_zero, or_most, due_most}
use Rattle.paper.proofs.Direction.{by_within}
use Rattle.paper.proofs.Laid.{passed, laid_out, offices_stand, offices_few}
use Rattle.paper.proofs.Cleared.{cleared_size}
use Rattle.paper.proofs.Walk.{Walk}
use Rattle.paper.proofs.Fair.{Ended, listing_ends}
use Rattle.paper.proofs.Bounds.{listing_within}
use Rattle.paper.proofs.Answer.{seen, answered}

-- none of 7, 8 and 9 is due, in plain sentences
pub record Allowed (m : Map) (o : Offices) (q k d : ℕ) (answer working : List ℕ) : Type 0 where
  pub place : q < m.places
  pub direction : is_direction d ≡ true
  pub one : 1 ≤ k
  pub enough : k ≤ o.count
  pub answers : line_words * k ≤ length answer
  pub works : slot_words * o.count ≤ length working

pub valid : (m : Map) (o : Offices) (q k d : ℕ) (answer working : List ℕ) → invalid m o q k d answer working ≡ 0 → Allowed m o q k d answer working
unfolding invalid
valid m o q k d answer working h =
    let pd : Bool = both (ltb q m.places) (is_direction d) in
    let a : Bool = leb 1 k in
    let b : Bool = leb k o.count in
    let e : Bool = leb (line_words * k) (length answer) in
    let f : Bool = leb (slot_words * o.count) (length working) in
    let h' : or_else (due (both a b) 8) (due (both e f) 9) ≡ 0 = or_right (due pd 7) _ h in
    let ab : both a b ≡ true = due_true (both a b) 8 (omega arith) (or_left (due (both a b) 8) _ h') in
    let ef : both e f ≡ true = due_true (both e f) 9 (omega arith) (or_right (due (both a b) 8) _ h') in
    let both_hold : pd ≡ true = due_true pd 7 (omega arith) (or_left (due pd 7) _ h) in
    record {
      place = ltb-true _ _ (both_left (ltb q m.places) (is_direction d) both_hold);
      direction = both_right (ltb q m.places) (is_direction d) both_hold;
      one = leb-true _ _ (both_left a b ab);
      enough = leb-true _ _ (both_right a b ab);
      answers = leb-true _ _ (both_left e f ef);
      works = leb-true _ _ (both_right e f ef);
    }

invalid_most : (m : Map) (o : Offices) (q k d : ℕ) (answer working : List ℕ) → invalid m o q k d answer working ≤ 9
unfolding invalid
invalid_most m o q k d answer working =
    or_most (due p 7) _ 9 (due_most p 7 9 (omega arith))
    (or_most (due ab 8) (due cd 9) 9 (due_most ab 8 9 (omega arith)) (due_most cd 9 9 (omega arith)))
  where
    p : Bool
    p = both (ltb q m.places) (is_direction d)

    ab : Bool
    ab = both (leb 1 k) (leb k o.count)

    cd : Bool
    cd = both (leb (line_words * k) (length answer)) (leb (slot_words * o.count) (length working))

-- over a map that is laid out and the offices on it
module _ (laid : ℕ) (m : Map) (o : Offices) (q k d : ℕ) (answer working : List ℕ) where
  abbrev x : Quest
  x = directed o q d

  asked : offices_hold m o ≡ true → ValidOn m o q k d answer working → Asked m x k
  asked h g =
      let X : Allowed m o q k d answer working = valid m o q k d answer working g in
      let stands : (i : ℕ) → i < o.count → o.stand i < m.places = offices_stand m o h in
      record {
        one = X.one;
        enough = X.enough;
        stands = stands;
        leaves = λ i p. by_within d q (o.stand i) X.place (stands i p);
        ends = λ i p. by_within d (o.stand i) q (stands i p) X.place;
      }

  ended_is : (st : State) → listing m x k ≡ served st → ended_on m x k ≡ st
  unfolding ended_on
  ended_is st e = ap end_of e

  -- on an accepted map every valid question is answered
  pub on_answered : LaidOut m → offices_hold m o ≡ true → AcceptedOn laid m → ValidOn m o q k d answer working → AnsweredOn m x k answer (reply_on laid m o q k d answer working)
  unfolding reply_on
  on_answered L stand A g =
      let Q : Asked m x k = asked stand g in
      let (st, e, near) = answered L A.truth Q in
      let none : or_else laid (invalid m o q k d answer working) ≡ 0 = or_zero laid _ A.laid g in
      let same : reply_on laid m o q k d answer working ≡ walk_out o.count k answer working (served st) = ap (reply_by m x k answer working) none ∙ ap (walk_out o.count k answer working) e in
      let end : ended_on m x k ≡ st = ended_is st e in
      rw same (record {
        nearest = record { number = refl; count = refl; list = rw end refl; seen = seen L A.truth Q; nearest = λ s. rw end (near s).0 };
        thrifty = record { total = rw end refl; thrifty = λ s. rw end (near s).1 };
      })

  -- on an accepted map the walk's refusals, 16 to 18, are never given
  pub on_early : LaidOut m → offices_hold m o ≡ true → AcceptedOn laid m → (reply_on laid m o q k d answer working).number ≤ 9
  unfolding reply_on
  on_early L stand A = go (invalid m o q k d answer working) refl
    where
      go : (n : ℕ) → invalid m o q k d answer working ≡ n → (reply_on laid m o q k d answer working).number ≤ 9
      go zero e = omega (arith, (on_answered L stand A e).nearest.number)
      go (suc n) e = rw (A.laid, e) (omega (arith, invalid_most m o q k d answer working))

  -- of any map: a refused question returns its number with both counts 0
  pub refused_counts : ((reply_on laid m o q k d answer working).number ≡ 0 → ⊥)
      → ((reply_on laid m o q k d answer working).count ≡ 0) × ((reply_on laid m o q k d answer working).refinements ≡ 0)
  unfolding reply_on
  refused_counts = go (or_else laid (invalid m o q k d answer working))
    where
      walk : (r : Served State) → ((walk_out o.count k answer working r).number ≡ 0 → ⊥)
          → ((walk_out o.count k answer working r).count ≡ 0) × ((walk_out o.count k answer working r).refinements ≡ 0)
      walk (refused n) h = (refl, refl)
      walk (served st) h = absurd (h refl)

      go : (n : ℕ) → ((reply_by m x k answer working n).number ≡ 0 → ⊥) → ((reply_by m x k answer working n).count ≡ 0) × ((reply_by m x k answer working n).refinements ≡ 0)
      go (suc n) h = (refl, refl)
      go zero h = walk (listing m x k) h

-- the same of an ordinary sheet
module _ (s : List ℕ) (q k d : ℕ) (answer working : List ℕ) (bytes : Bytes s) (A : Accepted s) where
  pub reply_answered : Valid s q k d answer working → Answered s q k d answer (reply s q k d answer working)
  unfolding reply
  reply_answered = on_answered (layout s) (map_of s) (offices_of s) q k d answer working (laid_out s bytes A.laid) (passed s A.laid).offices A

  pub reply_early : (reply s q k d answer working).number ≤ 9
  unfolding reply
  reply_early = on_early (layout s) (map_of s) (offices_of s) q k d answer working (laid_out s bytes A.laid) (passed s A.laid).offices A

-- of any sheet that the layout rules pass: every trail, line and total of a valid question is within its bounds
pub sheet-listed : (s : List ℕ) (q k d : ℕ) (answer working : List ℕ) → Bytes s → layout s ≡ 0 → Valid s q k d answer working
    → On Any (ListedWithin (map_of s) (quest_of s q d)) (listing (map_of s) (quest_of s q d) k)
sheet-listed s q k d answer working bytes h g =
    listing_within (laid_out s bytes h) (asked (layout s) (map_of s) (offices_of s) q k d answer working (passed s h).offices g)

-- the list takes five words for each line, and they are the line's
pub lines_size : (ls : List Line) → length (lines_out ls) ≡ line_words * length ls
unfolding lines_out
lines_size [] = refl
lines_size (l ∷ ls) = omega (arith, length-append (line_out l) (lines_out ls), lines_size ls)

append_past : (xs ys : List ℕ) (j : ℕ) → get_or (xs ++ ys) (length xs + j) 0 ≡ get_or ys j 0
append_past xs ys j = sym (get_or-drop (length xs) (xs ++ ys) j 0) ∙ ap (λ (l : List ℕ). get_or l j 0) (drop-append_seam xs ys)

-- word j of line a
pub lines_word : (ls : List Line) (r : List ℕ) (a j : ℕ) → a < length ls → j < line_words → get_or (lines_out ls ++ r) (line_words * a + j) 0 ≡ get_or (line_out (line_at ls a)) j 0
unfolding lines_out
lines_word [] r a j p q = absurd (omega arith)
lines_word (l ∷ ls) r zero j p q =
    let e : line_words * 0 + j ≡ j = omega arith in
    rw e (get_or-append (line_out l) (lines_out ls ++ r) 0 j q)
lines_word (l ∷ ls) r (suc a) j p q =
    let e : line_words * suc a + j ≡ line_words + (line_words * a + j) = omega arith in
    rw e (append_past (line_out l) (lines_out ls ++ r) (line_words * a + j) ∙ lines_word ls r a j (omega arith) q)

-- every word that is written is below 100,000,000,000
module _ {m : Map} (x : Quest) (L : LaidOut m) (few : x.count ≤ most_offices) where
  line-below : (l : Line) → LineWithin m x l → (j : ℕ) → j < line_words → get_or (line_out l) j 0 < end_below
  line-below l W zero p = omega (arith, W.office)
  line-below l W (suc zero) p = omega (arith, W.ordered, W.high)
  line-below l W (suc (suc zero)) p = W.high
  line-below l W (suc (suc (suc zero))) p = omega (arith, W.stages, L.ground.places)
  line-below l W (suc (suc (suc (suc zero)))) p = omega (arith, W.gazetteer)
  line-below l W (suc (suc (suc (suc (suc j))))) p = absurd (omega arith)

  pub lines_below : (ls : List Line) → ((a : ℕ) → a < length ls → LineWithin m x (line_at ls a)) → (i : ℕ) → i < length (lines_out ls) → get_or (lines_out ls) i 0 < end_below
  lines_below ls W i p =
      let a : ℕ = i / line_words in
      let j : ℕ = i % line_words in
      let h : a < length ls = omega (arith, lines_size ls) in
      let e : line_words * a + j ≡ i = omega arith in
      let f : get_or (lines_out ls ++ []) i 0 < end_below =
      subst (λ (n : ℕ). get_or (lines_out ls ++ []) n 0 < end_below) e (rw (lines_word ls [] a j h (omega arith)) (line-below (line_at ls a) (W a h) j (omega arith))) in
      rw (get_or-append (lines_out ls) [] 0 i p) at f

  pub total_below : (st : State) → ListedWithin m x st → st.total < end_below
  total_below st W = omega (arith, W.total, mul-le-mul few L.ground.places)

  walk-below : (k : ℕ) → k ≤ x.count → (answer working : List ℕ) (r : Served State) → On Walk (Ended m.places x.count k (λ st. Unit {0})) r → On Any (ListedWithin m x) r
      → (walk_out x.count k answer working r).number ≡ 0 → WordsBelow k (walk_out x.count k answer working r)
  walk-below k most answer working (refused n) W h e = absurd (omega (arith, W.least))
  walk-below k most answer working (served st) E W e = record {
    answer = λ i p.
        let h : i < length (lines_out st.lines) = omega (arith, E.count, lines_size st.lines) in
        rw (get_or-append (lines_out st.lines) (drop (line_words * k) answer) 0 i h) (lines_below st.lines W.lines i h);
    count = omega arith;
    refinements = total_below st W;
  }

-- of any sheet: what a question writes where it is not refused
pub reply_below : (s : List ℕ) (q k d : ℕ) (answer working : List ℕ) → Bytes s → (reply s q k d answer working).number ≡ 0 → WordsBelow k (reply s q k d answer working)
unfolding reply reply_on
reply_below s q k d answer working bytes = go (or_else (layout s) (invalid (map_of s) (offices_of s) q k d answer working)) refl
  where
    x : Quest
    x = quest_of s q d

    go : (n : ℕ) → or_else (layout s) (invalid (map_of s) (offices_of s) q k d answer working) ≡ n
        → (reply_by (map_of s) x k answer working n).number ≡ 0 → WordsBelow k (reply_by (map_of s) x k answer working n)
    go (suc n) e h = absurd (omega arith)
    go zero e h =
        let laid : layout s ≡ 0 = or_left (layout s) _ e in
        let fine : Valid s q k d answer working = or_right (layout s) _ e in
        let most : k ≤ (offices_of s).count = (valid (map_of s) (offices_of s) q k d answer working fine).enough in
        walk-below x (laid_out s bytes laid) (offices_few s laid) k most answer working (listing (map_of s) x k) (listing_ends (map_of s) x k most)
        (sheet-listed s q k d answer working bytes laid fine) h

-- how many words a reply leaves: as many as were lent
pub record Kept (a w : List ℕ) (r : Reply) : Type 0 where
  pub answer : length r.answer ≡ length a
  pub working : length r.working ≡ length w

pub reply_kept : (s : List ℕ) (q k d : ℕ) (answer working : List ℕ) → Kept answer working (reply s q k d answer working)
unfolding reply reply_on
reply_kept s q k d answer working = go (or_else (layout s) (invalid m o q k d answer working)) refl
  where
    m : Map
    m = map_of s

    o : Offices
    o = offices_of s

    walk : Allowed m o q k d answer working → (r : Served State) → On Walk (Ended m.places o.count k (λ st. Unit {0})) r → Kept answer working (walk_out o.count k answer working r)
    walk X (refused n) h = record { answer = cleared_size (line_words * k) answer X.answers; working = cleared_size (slot_words * o.count) working X.works }
    walk X (served st) E = record {
      answer = omega (arith, E.count, X.answers, lines_size st.lines, length-append (lines_out st.lines) (drop (line_words * k) answer), length-drop (line_words * k) answer);
      working = cleared_size (slot_words * o.count) working X.works;
    }

    go : (n : ℕ) → or_else (layout s) (invalid m o q k d answer working) ≡ n → Kept answer working (reply_by m (directed o q d) k answer working n)
    go (suc n) e = record { answer = refl; working = refl }
    go zero e =
        let X : Allowed m o q k d answer working = valid m o q k d answer working (or_right (layout s) _ e) in
        walk X (listing m (directed o q d) k) (listing_ends m (directed o q d) k X.enough)
