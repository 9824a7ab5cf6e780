-- What a store to the working slice leaves as it was, and what the slice holds after an office has left.
use Prim.Native.Nat.{ℕ, ◌+◌, ◌*◌, ◌≤◌, ◌<◌}
use native.Mathlib.Omega.{arith}
use native.Mathlib.Decide.{dec_lt}
use mathlib.Core.Path.{◌≡◌, refl, ◌∙◌}
use mathlib.Core.Logic.{◌≢◌}
use mathlib.Core.Bool.{true, false}
use mathlib.Core.List.{List}
use lib.ListN.{length, get_or, set, length-set}
use lib.Seq.{get_or-set_other}
use Rattle.mintree.specs.Mintree.{Played, Same}
use Rattle.mintree.proofs.Laws.{word_new, word_other}
use Rattle.paper.specs.Sizes.{slot_words}
use Rattle.paper.specs.Trail.{Trail}
use Rattle.paper.specs.Listing.{Slot, at, retired}
use Rattle.paper.specs.Bounds.{Sane}
use Rattle.paper.proofs.Test.{true_false}
use Rattle.paper.proofs.Slots.{set_all}
use Rattle.nearest.specs.Working.{side_words, tree_at, gone, key_in, Side, Stored, Held, Shown, Beyond}

-- the words of the offices beside the tree are kept
pub side_same : {w w' : List ℕ} {j : ℕ} {t : Trail} → ((k : ℕ) → k < side_words * j + side_words → side_words * j ≤ k → get_or w' k 0 ≡ get_or w k 0) → Side w j t → Side w' j t
side_same {w} {w'} {j} f S = record {
  via = f (side_words * j) (omega arith) (omega arith) ∙ S.via;
  walked = f (side_words * j + 1) (omega arith) (omega arith) ∙ S.walked;
  high = f (side_words * j + 2) (omega arith) (omega arith) ∙ S.high;
  stages = f (side_words * j + 3) (omega arith) (omega arith) ∙ S.stages;
}

module _ {i : ℕ} {t : Trail} {w w' : List ℕ} (S : Stored i t w w') where
  pub stored_side : (j : ℕ) (r : Trail) → j ≢ i → Side w j r → Side w' j r
  stored_side j r ne = go (dec_lt j i)
    where
      go : Dec (j < i) → Side w j r → Side w' j r
      go (yes p) = side_same (λ k h l. S.before k (omega arith))
      go (no p) = side_same (λ k h l. S.after k (omega arith))

  pub stored_key : (n j : ℕ) → i < n → key_in w' n j ≡ key_in w n j
  stored_key n j p = S.after (tree_at n + (n + j)) (omega arith)

module _ (n i v : ℕ) (w w' : List ℕ) (p : i < n) (C : Same (tree_at n) n (set w (tree_at n + (n + i)) v) w') where
  pub changed_side : (j : ℕ) (r : Trail) → j < n → Side w j r → Side w' j r
  changed_side j r q = side_same (λ k h l. C.before k (omega arith) ∙ get_or-set_other w (tree_at n + (n + i)) k v 0 (omega arith))

  pub changed_beyond : Beyond (slot_words * n) w w'
  changed_beyond = record {
    long = C.long ∙ length-set w (tree_at n + (n + i)) v;
    rest = λ k h. C.after k (omega arith) ∙ get_or-set_other w (tree_at n + (n + i)) k v 0 (omega arith);
  }

module _ {places n : ℕ} {w : List ℕ} {ss : List Slot} (S : Shown places n w ss) (i : ℕ) (p : i < n) where
  inside : i < length ss
  inside = omega (arith, S.size)

  -- office i has left
  pub retire : (w' : List ℕ) → Same (tree_at n) n (set w (tree_at n + (n + i)) gone) w' → Played w' (tree_at n) n → Shown places n w' (retired ss i)
  retire w' C P = record {
    few = S.few;
    long = omega (arith, S.long, (changed_beyond n i gone w w' p C).long);
    size = length-set ss i y ∙ S.size;
    played = P;
    held = set_all (λ j s. j < n → s.waits ≡ true → Held w' n j s.trail) ss i y inside
        (λ q e. true_false e refl)
        (λ j ne q e. record {
          side = changed_side n i gone w w' p C j _ q (S.held j q e).side;
          low = word_other w w' (tree_at n) n i gone C j ne ∙ (S.held j q e).low;
        });
    sane = set_all (λ j s. j < n → s.waits ≡ true → Sane places s.trail) ss i y inside (λ q e. true_false e refl) (λ j ne. S.sane j);
    left = set_all (λ j s. j < n → s.waits ≡ false → key_in w' n j ≡ gone) ss i y inside
        (λ q e. word_new w w' (tree_at n) n i gone C S.played.room p)
        (λ j ne q e. word_other w w' (tree_at n) n i gone C j ne ∙ S.left j q e);
  }
    where
      y : Slot
      y = record { trail = (at ss i).trail; waits = false }
