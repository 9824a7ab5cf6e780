-- What the layout passes on its way: the sections, a fresh list of how many stages leave, and the offices of the list.
use Prim.Native.Nat.{ℕ, ◌/◌, ◌≤◌, ◌<◌}
use native.Mathlib.Omega.{arith}
use mathlib.Core.Path.{◌≡◌, sym, ap}
use mathlib.Core.Bool.{Bool, true, false}
use mathlib.Core.List.{List}
use lib.ListN.{length, get_or, replicate, length-replicate}
use borrow.Author.Tests.{le-ltb, lt-ltb}
use Rattle.std.specs.Bool.{MatchBool}
use Rattle.std.specs.List.{range_with_len, AllWithin, HoldsAt}
use Rattle.std.proofs.lemmas.List.{get_or-replicate}
use Rattle.std.proofs.lemmas.List.FromFn.{length-range_with_len, get_or-range_with_len}
use Rattle.paper.specs.declared.Counts.{Counts}
use Rattle.paper.specs.Served.{served, refused}
use Rattle.paper.specs.Sizes.{most_places}
use Rattle.paper.specs.Map.{Map}
use Rattle.paper.specs.Sheet.{word, offices_in}
use Rattle.paper.specs.Layout.{sections, offices_hold, layout}
use Rattle.paper.proofs.Test.{every_of, every_false}
use Rattle.sheet.specs.Laid.{laid_by, laid_of, Sectioned}
use Rattle.sheet.specs.Records.{Zeros}
use Rattle.sheet.proofs.Room.{out_by, refused_by}

-- what a test of each office of a list comes to
module _ (m : Map) (l : List ℕ) (places : ℕ) where
  abbrev pub all : List ℕ
  all = range_with_len 0 (length l / 4)

  at : (i : ℕ) → i < length l / 4 → get_or all i 0 ≡ i
  at i p = omega (arith, get_or-range_with_len 0 (length l / 4) i 0 p)

  pub offices_by : (r : Bool) → m.places ≡ places → MatchBool r (AllWithin (λ i. word l i < places) all 0 (length all)) ((k : ℕ) × (k < length all) × HoldsAt (λ i. places ≤ word l i) all k)
      → r ≡ offices_hold m (offices_in l)
  unfolding offices_hold offices_in
  offices_by true e h = sym (every_of (length l / 4) _ (λ i p. lt-ltb _ _ (rw (at i p, ← e) at (h i 0 (omega arith) (omega (arith, length-range_with_len 0 (length l / 4)))))))
  offices_by false e (k, p, h) = let q : k < length l / 4 = omega (arith, length-range_with_len 0 (length l / 4)) in
      sym (every_false (length l / 4) _ k q (le-ltb _ _ (rw (at k q, ← e) at (h 0))))

-- a fresh list counts no stage
pub fresh : (n : ℕ) → n ≤ most_places → Zeros n (replicate most_places 0)
fresh n h = record { long = omega (arith, length-replicate {A = ℕ} most_places 0); zeros = λ u p. get_or-replicate most_places u 0 0 (omega arith) }

-- what the sections come to
module _ (s : List ℕ) where
  pub sectioned_by : (c : Counts) → served c ≡ laid_by s (sections s) → Sectioned s c
  sectioned_by c h = let (e, f) = out_by s c (sections s) h in record { whole = e; counts = f }

  pub refused_early : (n : ℕ) → refused n ≡ laid_by s (sections s) → refused n ≡ laid_of s
  unfolding laid_of layout
  refused_early n h = let (d, e, f) = refused_by s n (sections s) h in rw f (ap refused e)
