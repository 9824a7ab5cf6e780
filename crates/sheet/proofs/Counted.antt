-- One section after the other: the count of each, or the number that is due.
use Prim.Native.Nat.{ℕ, zero, suc, ◌+◌, ◌*◌, ◌%◌, ◌≤◌}
use native.Mathlib.Omega.{arith}
use mathlib.Core.Path.{◌≡◌, refl, sym, ap, ◌∙◌}
use mathlib.Core.List.{List}
use lib.Dec.{eqb}
use lib.ListN.{length}
use borrow.Author.Tests.{eq-eqb, ne_eqb}
use Rattle.paper.specs.declared.Counts.{Counts}
use Rattle.paper.specs.Served.{served, refused}
use Rattle.paper.specs.Sizes.{place_words, stage_words, block_words, office_words, most_places, most_stages, most_blocks, most_offices}
use Rattle.paper.specs.Test.{due, or_else}
use Rattle.paper.specs.Sheet.{word, stages_at, blocks_at, offices_at}
use Rattle.paper.specs.Layout.{words_in, section, ends_at, sections}
use Rattle.paper.proofs.Laid.{stands}
use Rattle.sheet.specs.Laid.{counts_of, laid_by, counted_by, stages_from, blocks_from, offices_from}

-- what is due of a sheet when the last k of the four sections, and the end, are still to be looked at
abbrev pub from : List ℕ → ℕ → ℕ
from s zero = due (eqb (ends_at s) (words_in s)) 1
from s (suc zero) = or_else (section s (offices_at s) 0 most_offices office_words) (from s zero)
from s (suc (suc zero)) = or_else (section s (blocks_at s) 0 most_blocks block_words) (from s (suc zero))
from s (suc (suc (suc zero))) = or_else (section s (stages_at s) 0 most_stages stage_words) (from s (suc (suc zero)))
from s (suc (suc (suc (suc k)))) = or_else (section s 0 1 most_places place_words) (from s (suc (suc (suc k))))

-- the code has come to the paper's word a, which it calls x: nothing is due before it, and d is what is due
pub record Come (s : List ℕ) (x a d : ℕ) : Type 0 where
  pub at : x ≡ a
  pub within : x ≤ words_in s
  pub left : sections s ≡ d

-- the length is a multiple of four, or not
module _ (s : List ℕ) where
  pub no_words : (length s % 4 ≡ 0 → ⊥) → refused 1 ≡ laid_by s (sections s)
  unfolding sections
  no_words h = rw (ne_eqb (length s % 4) 0 h)

  pub words : length s % 4 ≡ 0 → Come s 0 0 (from s 4)
  unfolding sections
  words h = record { at = refl; within = omega arith; left = rw (eq-eqb (length s % 4) 0 h) }

-- what `section` says where the code has come to a section: its count, or the number that is due
module _ {s : List ℕ} {x a : ℕ} (least most size d : ℕ) (C : Come s x a (or_else (section s a least most size) d)) (n : ℕ) where
  pub past : served n ≡ counted_by (word s x) (section s x least most size) → Come s (x + 1 + size * n) (a + 1 + size * word s a) d
  past is = go (section s a least most size) refl (rw C.at at is)
    where
      go : (k : ℕ) → section s a least most size ≡ k → served n ≡ counted_by (word s a) k → Come s (x + 1 + size * n) (a + 1 + size * word s a) d
      go zero e f =
          let count : n ≡ word s a = cc in
          rw (C.at, count) (record { at = refl; within = (stands s a least most size e).fits; left = C.left ∙ rw e })
      go (suc k) e f = let z : ◌≡◌ {A = ℕ} 0 1 = cc in absurd (omega arith)

  pub due_here : refused n ≡ counted_by (word s x) (section s x least most size) → refused n ≡ laid_by s (sections s)
  due_here is = rw C.left (go (section s a least most size) (rw C.at at is))
    where
      go : (k : ℕ) → refused n ≡ counted_by (word s a) k → refused n ≡ laid_by s (or_else k d)
      go zero f = let z : ◌≡◌ {A = ℕ} 0 1 = cc in absurd (omega arith)
      go (suc k) f = let e : n ≡ suc k = cc in ap refused e

-- the last section does not end with the sheet, or it does
pub left_over : {s : List ℕ} {x : ℕ} → Come s x (ends_at s) (from s 0) → (x ≡ words_in s → ⊥) → refused 1 ≡ laid_by s (sections s)
left_over {s} C h = rw (C.left, ne_eqb (ends_at s) (words_in s) (λ e. h (C.at ∙ e)))

pub all_passed : {s : List ℕ} {c : Counts} → stages_from c ≡ stages_at s → blocks_from c ≡ blocks_at s → offices_from c ≡ offices_at s → Come s (offices_from c + 1 + c.offices) (ends_at s) (from s 0)
    → offices_from c + 1 + c.offices ≡ words_in s → served c ≡ laid_by s (sections s)
unfolding counts_of ends_at
all_passed {s} {c} t b o C h =
    let p : c.places ≡ word s 0 = omega arith in
    let q : c.stages ≡ word s (stages_at s) = omega arith in
    let r : c.blocks ≡ word s (blocks_at s) = omega arith in
    let e : c.offices ≡ word s (offices_at s) = omega (arith, C.at) in
    rw (C.left, eq-eqb (ends_at s) (words_in s) (sym C.at ∙ h)) (λ k. served (record { places = p k; stages = q k; blocks = r k; offices = e k }))
