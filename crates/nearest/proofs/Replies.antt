-- The reply of the definitions, by the first number that is due and by how the walk ends.
use Prim.Native.Nat.{ℕ, suc, ◌*◌, ◌≤◌, ◌<◌}
use native.Mathlib.Omega.{arith}
use mathlib.Core.Path.{◌≡◌, ap, ◌∙◌}
use mathlib.Core.Bool.{Bool, true, false}
use mathlib.Core.List.{List}
use lib.Dec.{leb, ltb}
use lib.ListN.{length}
use borrow.Author.Tests.{lt-ltb, le-ltb, lt-leb, le-leb}
use Rattle.paper.specs.Sizes.{line_words, slot_words}
use Rattle.paper.specs.Test.{both}
use Rattle.paper.specs.Map.{Map, Offices}
use Rattle.paper.specs.Quest.{Quest, is_direction, directed}
use Rattle.paper.specs.Listing.{listing}
use Rattle.paper.specs.Reply.{Reply, invalid, ValidOn, walk_out, reply_by, reply_on}
use Rattle.paper.proofs.Test.{or_first, or_next, both_true, both_false_left, both_false_right}

-- refused before the walk: both slices untouched
abbrev pub early : ℕ → List ℕ → List ℕ → Reply
early n answer working = record { number = n; count = 0; refinements = 0; answer = answer; working = working }

module _ (laid : ℕ) (m : Map) (o : Offices) (q k d : ℕ) (answer working : List ℕ) where
  abbrev x : Quest
  x = directed o q d

  pub reply_badly_laid : (n : ℕ) → laid ≡ suc n → reply_on laid m o q k d answer working ≡ early (suc n) answer working
  unfolding reply_on
  reply_badly_laid n e = ap (reply_by m x k answer working) (or_first laid (invalid m o q k d answer working) n e)

  module _ (l : laid ≡ 0) where
    pub reply-invalid : (n : ℕ) → invalid m o q k d answer working ≡ suc n → reply_on laid m o q k d answer working ≡ early (suc n) answer working
    unfolding reply_on
    reply-invalid n e = ap (reply_by m x k answer working) (or_next laid (invalid m o q k d answer working) l ∙ e)

    pub walk-reply : ValidOn m o q k d answer working → reply_on laid m o q k d answer working ≡ walk_out o.count k answer working (listing m x k)
    unfolding reply_on
    walk-reply e = ap (reply_by m x k answer working) (or_next laid (invalid m o q k d answer working) l ∙ e)

-- 7, 8 and 9, by the tests that the code makes
module _ (m : Map) (o : Offices) (q k d : ℕ) (answer working : List ℕ) where
  abbrev here : Bool
  here = ltb q m.places

  pub invalid_place : m.places ≤ q → invalid m o q k d answer working ≡ 7
  unfolding invalid
  invalid_place h = rw (le-ltb q m.places h)

  pub invalid_direction : is_direction d ≡ false → invalid m o q k d answer working ≡ 7
  unfolding invalid
  invalid_direction h = rw (both_false_right here (is_direction d) h)

  module _ (p : q < m.places) (t : is_direction d ≡ true) where
    q-fits : both here (is_direction d) ≡ true
    q-fits = both_true here (is_direction d) (lt-ltb q m.places p) t

    pub invalid_none : k ≡ 0 → invalid m o q k d answer working ≡ 8
    unfolding invalid
    invalid_none h = rw (q-fits, both_false_left (leb 1 k) (leb k o.count) (lt-leb 1 k (omega arith)))

    pub invalid-many : o.count < k → invalid m o q k d answer working ≡ 8
    unfolding invalid
    invalid-many h = rw (q-fits, both_false_right (leb 1 k) (leb k o.count) (lt-leb k o.count h))

    module _ (a : 1 ≤ k) (b : k ≤ o.count) where
      abbrev answers : Bool
      answers = leb (line_words * k) (length answer)

      abbrev works : Bool
      works = leb (slot_words * o.count) (length working)

      k-fits : both (leb 1 k) (leb k o.count) ≡ true
      k-fits = both_true (leb 1 k) (leb k o.count) (le-leb 1 k a) (le-leb k o.count b)

      pub invalid-answer : length answer < line_words * k → invalid m o q k d answer working ≡ 9
      unfolding invalid
      invalid-answer h = rw (q-fits, k-fits, both_false_left answers works (lt-leb (line_words * k) (length answer) h))

      pub invalid-working : length working < slot_words * o.count → invalid m o q k d answer working ≡ 9
      unfolding invalid
      invalid-working h = rw (q-fits, k-fits, both_false_right answers works (lt-leb (slot_words * o.count) (length working) h))

      pub invalid-not : line_words * k ≤ length answer → slot_words * o.count ≤ length working → invalid m o q k d answer working ≡ 0
      unfolding invalid
      invalid-not e f = rw (
        q-fits,
        k-fits,
        both_true answers works (le-leb (line_words * k) (length answer) e) (le-leb (slot_words * o.count) (length working) f),
      )
