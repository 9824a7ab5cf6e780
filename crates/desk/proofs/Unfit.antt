-- The tests before the check, in the order of the code.
use Prim.Native.Nat.{ℕ, ◌+◌, ◌-◌, ◌≤◌, ◌<◌}
use native.Mathlib.Omega.{arith}
use mathlib.Core.Path.{◌≡◌, refl, ◌∙◌}
use mathlib.Core.Bool.{Bool, true}
use mathlib.Core.List.{List}
use lib.Dec.{leb}
use lib.ListN.{length, take, drop}
use borrow.Author.Tests.{le-leb, lt-leb, leb-true}
use Rattle.paper.specs.declared.Counts.{Counts}
use Rattle.paper.specs.Served.{refused, served}
use Rattle.paper.specs.Sizes.{asked_bytes, program_bytes, program_places, program_offices}
use Rattle.paper.specs.Test.{both, due, or_else}
use Rattle.paper.specs.Sheet.{map_of, offices_of}
use Rattle.paper.specs.Layout.{layout}
use Rattle.paper.specs.Printed.{unfit, sheet_in}
use Rattle.paper.proofs.Test.{both_true, both_left, both_right, both_false_left, both_false_right, due_true, or_left, or_right}
use Rattle.sheet.specs.Laid.{laid_of}
use Rattle.sheet.proofs.Room.{parted, offices-counted, laid_counts, laid_number}
use Rattle.sheet.specs.Laid.{Sectioned}
use Rattle.sheet.proofs.Grounds.{rest_is, sectioned}

-- the sheet is what stands after the two words
pub sheet_part : (input : List ℕ) → take (length input - asked_bytes) (drop asked_bytes input) ≡ sheet_in input
sheet_part input = rest_is asked_bytes asked_bytes input refl

module _ (input : List ℕ) where
  abbrev long : Bool
  long = leb asked_bytes (length input)

  abbrev short : Bool
  short = leb (length input) (asked_bytes + program_bytes)

  pub unfit_short : length input < asked_bytes → 20 ≡ unfit input
  unfolding unfit
  unfit_short h = rw (both_false_left long short (lt-leb asked_bytes (length input) h))

  pub unfit_long : asked_bytes + program_bytes < length input → 20 ≡ unfit input
  unfolding unfit
  unfit_long h = rw (both_false_right long short (lt-leb (length input) (asked_bytes + program_bytes) h))

  module _ (a : asked_bytes ≤ length input) (b : length input ≤ asked_bytes + program_bytes) where
    sized : both long short ≡ true
    sized = both_true long short (le-leb asked_bytes (length input) a) (le-leb (length input) (asked_bytes + program_bytes) b)

    pub unfit-layout : (n : ℕ) → refused n ≡ laid_of (sheet_in input) → n ≡ unfit input
    unfolding unfit
    unfit-layout n e = let (d, is, l) = laid_number (sheet_in input) n e in is ∙ rw (sized, l)

    module _ (c : Counts) (e : served c ≡ laid_of (sheet_in input)) where
      abbrev few : Bool
      few = leb (map_of (sheet_in input)).places program_places

      abbrev small : Bool
      small = leb (offices_of (sheet_in input)).count program_offices

      flat : layout (sheet_in input) ≡ 0
      flat = (laid_counts (sheet_in input) c e).0

      whole : Sectioned (sheet_in input) c
      whole = sectioned (sheet_in input) c flat (laid_counts (sheet_in input) c e).1

      places : c.places ≡ (map_of (sheet_in input)).places
      places = (parted (sheet_in input) c whole).places

      offices : c.offices ≡ (offices_of (sheet_in input)).count
      offices = offices-counted (sheet_in input) c whole

      pub unfit-places : program_places < c.places → 20 ≡ unfit input
      unfolding unfit
      unfit-places h = rw (sized, flat, both_false_left few small (lt-leb (map_of (sheet_in input)).places program_places (omega (arith, places))))

      pub unfit-offices : program_offices < c.offices → 20 ≡ unfit input
      unfolding unfit
      unfit-offices h = rw (sized, flat, both_false_right few small (lt-leb (offices_of (sheet_in input)).count program_offices (omega (arith, offices))))

      pub unfit-not : c.places ≤ program_places → c.offices ≤ program_offices → 0 ≡ unfit input
      unfolding unfit
      unfit-not p q = rw (
        sized,
        flat,
        both_true few small (le-leb (map_of (sheet_in input)).places program_places (omega (arith, places)))
            (le-leb (offices_of (sheet_in input)).count program_offices (omega (arith, offices))),
      )

-- an input that passes the tests
pub record Fit (input : List ℕ) : Type 0 where
  pub long : asked_bytes ≤ length input
  pub flat : layout (sheet_in input) ≡ 0
  pub offices : (offices_of (sheet_in input)).count ≤ program_offices

pub fit : (input : List ℕ) → unfit input ≡ 0 → Fit input
unfolding unfit
fit input h =
    let a : Bool = leb asked_bytes (length input) in
    let b : Bool = leb (length input) (asked_bytes + program_bytes) in
    let p : Bool = leb (map_of (sheet_in input)).places program_places in
    let o : Bool = leb (offices_of (sheet_in input)).count program_offices in
    let ab : both a b ≡ true = due_true (both a b) 20 (omega arith) (or_left (due (both a b) 20) _ h) in
    let rest : or_else (layout (sheet_in input)) (due (both p o) 20) ≡ 0 = or_right (due (both a b) 20) _ h in
    let po : both p o ≡ true = due_true (both p o) 20 (omega arith) (or_right (layout (sheet_in input)) _ rest) in
    record {
      long = leb-true _ _ (both_left a b ab);
      flat = or_left (layout (sheet_in input)) _ rest;
      offices = leb-true _ _ (both_right p o po);
    }
