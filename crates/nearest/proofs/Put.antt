-- What the working slice holds after an office is put back with another trail.
use Prim.Native.Nat.{ℕ, ◌+◌, ◌<◌}
use native.Mathlib.Omega.{arith}
use mathlib.Core.Path.{◌≡◌, refl, sym, ◌∙◌}
use mathlib.Core.Logic.{◌≢◌}
use mathlib.Core.Bool.{true, false}
use mathlib.Core.List.{List}
use lib.ListN.{length, set, length-set}
use Rattle.mintree.specs.Mintree.{Room, Played, Same}
use Rattle.mintree.proofs.Laws.{word_new, word_other}
use Rattle.paper.specs.Trail.{Trail}
use Rattle.paper.specs.Listing.{Slot, at, retired, refined}
use Rattle.paper.specs.Bounds.{Sane}
use Rattle.paper.proofs.Test.{true_false}
use Rattle.paper.proofs.Slots.{set_all}
use Rattle.nearest.specs.Working.{tree_at, key, gone, key_in, Stored, Held, Shown}
use Rattle.nearest.proofs.Hold.{stored_side, stored_key, changed_side, changed_beyond}

pub room : {i n : ℕ} {t : Trail} {w w₁ : List ℕ} → Room w (tree_at n) n → Stored i t w w₁ → Room w₁ (tree_at n) n
room R X = record { some = R.some; ends = omega (arith, R.ends, X.long) }

-- office i is put back with the trail t
module _ {places n : ℕ} {w : List ℕ} (ss : List Slot) (i : ℕ) (p : i < n) (S : Shown places n w (retired ss i))
    (t : Trail) (w₁ w₂ : List ℕ) (X : Stored i t w w₁) (x : ℕ) (e : x ≡ key t.low i) (C : Same (tree_at n) n (set w₁ (tree_at n + (n + i)) x) w₂)
    (P : Played w₂ (tree_at n) n) (sane : Sane places t) where
  abbrev y : Slot
  y = record { trail = t; waits = true }

  abbrev gap : Slot
  gap = record { trail = (at ss i).trail; waits = false }

  size : length ss ≡ n
  size = sym (length-set ss i gap) ∙ S.size

  inside : i < length ss
  inside = omega (arith, size)

  -- an office other than i is where it was
  other : (j : ℕ) → j ≢ i → at (retired ss i) j ≡ at ss j
  other j ne = set_all (λ k s. k ≢ i → s ≡ at ss k) ss i gap inside (λ z. absurd (z refl)) (λ k z z'. refl) j ne

  key-other : (j : ℕ) → j ≢ i → key_in w₂ n j ≡ key_in w n j
  key-other j ne = word_other w₁ w₂ (tree_at n) n i x C j ne ∙ stored_key X n j p

  pub put_back : Shown places n w₂ (refined ss i t)
  put_back = record {
    few = S.few;
    long = omega (arith, S.long, X.long, (changed_beyond n i x w₁ w₂ p C).long);
    size = length-set ss i y ∙ size;
    played = P;
    held = set_all (λ j s. j < n → s.waits ≡ true → Held w₂ n j s.trail) ss i y inside
        (λ q z. record {
          side = changed_side n i x w₁ w₂ p C i t p X.side;
          low = word_new w₁ w₂ (tree_at n) n i x C (room S.played.room X) p ∙ e;
        })
        (λ j ne q z.
        let H : Held w n j (at ss j).trail = rw (other j ne) at (S.held j q (rw (other j ne) z)) in
        record {
          side = changed_side n i x w₁ w₂ p C j _ q (stored_side X j _ ne H.side);
          low = key-other j ne ∙ H.low;
        });
    sane = set_all (λ j s. j < n → s.waits ≡ true → Sane places s.trail) ss i y inside (λ q z. sane)
        (λ j ne q z. rw (other j ne) at (S.sane j q (rw (other j ne) z)));
    left = set_all (λ j s. j < n → s.waits ≡ false → key_in w₂ n j ≡ gone) ss i y inside (λ q z. true_false refl z)
        (λ j ne q z. key-other j ne ∙ S.left j q (rw (other j ne) z));
  }
