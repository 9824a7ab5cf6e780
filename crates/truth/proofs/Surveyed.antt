-- The road book and its chains as the columns need them, and the ends of a check that leave the slice untouched.
use Prim.Native.Nat.{ℕ, ◌*◌, ◌≤◌, ◌<◌}
use native.Mathlib.Omega.{arith}
use mathlib.Core.Path.{◌≡◌, refl, sym, subst, ◌∙◌}
use mathlib.Core.List.{List}
use lib.ListN.{length, get_or, take}
use lib.Seq.{length-take-le, get_or-take}
use Rattle.paper.specs.declared.Counts.{Counts}
use Rattle.paper.specs.Map.{Map}
use Rattle.paper.specs.Sheet.{map_of}
use Rattle.paper.specs.Layout.{Bytes}
use Rattle.paper.specs.Verdict.{CheckedOn, Checked, badly_laid, short}
use Rattle.paper.proofs.LaidOut.{LaidOut}
use Rattle.paper.proofs.Laid.{lawful_laid}
use Rattle.sheet.specs.Book.{Book}
use Rattle.paper.specs.Served.{served, refused}
use Rattle.sheet.specs.Laid.{laid_of}
use Rattle.sheet.specs.Ground.{Mapped}
use Rattle.sheet.proofs.Room.{Room, room, laid_counts, laid_number}
use Rattle.sheet.proofs.Grounds.{mapped_lawful, mapped_charted}
use Rattle.roads.specs.Chain.{Chainable, Chained, Starts, GoesOn}
use Rattle.roads.specs.Towards.{Lists}
use Rattle.roads.proofs.Laws.{map-starts, map_goes, map_ready, map_entered}
use Rattle.truth.specs.Table.{CheckedIn}
use Rattle.truth.specs.Roads.{Roads, Surveyed}

-- the chains of a map's stages, by its book
module _ {m : Map} (L : LaidOut m) (first tails heads lengths : List ℕ) (B : Book m first tails heads lengths) where
  heads-are : (i : ℕ) → i < m.stages → m.head i ≡ get_or (take m.stages heads) i 0
  heads-are i p = sym (get_or-take m.stages heads i 0 p ∙ B.leads.to.each i p)

  heads-take : length (take m.stages heads) ≡ m.stages
  heads-take = length-take-le m.stages heads B.leads.to.long

  tails-take : length (take m.stages tails) ≡ m.stages
  tails-take = length-take-le m.stages tails B.from.long

  pub book_chainable : (last previous : List ℕ) → m.places ≤ length last → m.stages ≤ length previous → Chainable (take m.stages heads) m.places last previous
  book_chainable last previous p q = record {
    few = omega (arith, L.stages, heads-take);
    places = p;
    stages = omega (arith, heads-take);
    head_in = λ i r. let h : i < m.stages = omega (arith, heads-take) in omega (arith, heads-are i h, L.heads i h);
  }

  pub book_roads : (last₀ previous₀ last previous : List ℕ) → m.places ≤ length last → m.stages ≤ length previous
      → Chained (take m.stages heads) m.places last₀ previous₀ last previous → Roads m m.places (take m.stages tails) lengths last previous
  book_roads last₀ previous₀ last previous p q C = record {
    ready = map_ready L (take m.stages tails) lengths lists previous (omega (arith, tails-take, B.leads.long.long)) (omega (arith, tails-take)) goes;
    entered = map_entered L (take m.stages tails) lengths lists last p starts;
    lists = lists;
    starts = starts;
    goes = goes;
  }
    where
      lists : Lists m (take m.stages tails) lengths m.places
      lists = record {
        stages = sym tails-take;
        tail = λ i h. sym (get_or-take m.stages tails i 0 h ∙ B.from.each i h);
        furlongs = λ i h. sym (B.leads.long.each i h);
        head_in = λ i h. L.heads i h;
      }

      starts : Starts m.head m.places m.stages last
      starts = map-starts m (take m.stages heads) m.places last₀ previous₀ last previous C (sym heads-take) heads-are

      goes : GoesOn m.head m.stages previous
      goes = map_goes m (take m.stages heads) m.places last₀ previous₀ last previous C (sym heads-take) heads-are

-- the same of a map that is read off the bytes, by the counts that the code has
module _ {g : List ℕ} {c : Counts} (M : Mapped g c) (bytes : Bytes g) (first tails heads lengths : List ℕ) (B : Book (map_of g) first tails heads lengths) where
  laid : LaidOut (map_of g)
  laid = lawful_laid (mapped_lawful M bytes)

  pub chainable : (last previous : List ℕ) → c.places ≤ length last → c.stages ≤ length previous → Chainable (take c.stages heads) c.places last previous
  chainable last previous p q =
      let R : Room g c = room g c M.parts in
      rw (R.places, R.stages) (book_chainable laid first tails heads lengths B last previous (omega (arith, R.places)) (omega (arith, R.stages)))

  pub surveyed : (last₀ previous₀ last previous : List ℕ) → c.places ≤ length last → c.stages ≤ length previous
      → Chained (take c.stages heads) c.places last₀ previous₀ last previous → Surveyed g first (take c.stages tails) heads lengths last previous (map_of g)
  surveyed last₀ previous₀ last previous p q C =
      let R : Room g c = room g c M.parts in
      record {
        charted = mapped_charted M bytes first heads lengths B.leads;
        roads = rw R.stages
            (book_roads laid first tails heads lengths B last₀ previous₀ last previous (omega (arith, R.places)) (omega (arith, R.stages)) (rw (R.places, R.stages) at C));
      }

-- what the layout comes to: a map to go on with, and a check of it; or a refusal
module _ (s before : List ℕ) where
  pub laid_checked : (c : Counts) (r : ℕ) (after : List ℕ) → served c ≡ laid_of s → CheckedOn 0 (map_of s) before r after → Checked s before r after
  laid_checked c r after e = subst (λ (n : ℕ). CheckedOn n (map_of s) before r after) (sym (laid_counts s c e).0)

  pub laid_refused : (r : ℕ) → refused r ≡ laid_of s → Checked s before r before
  laid_refused r e = let (n, q, h) = laid_number s r e in subst (λ (x : ℕ). Checked s before x before) (sym q) (badly_laid h)

-- a slice that is too short
pub short_end : {U : Type 0} (held : List U → List ℕ) (written : List ℕ → List U → List U) (g : List ℕ) (before : List U) (c : Counts) → Mapped g c → length (held before) < c.places * c.places
    → before ≡ written (held before) before → CheckedIn held written 0 (map_of g) before 10 before
short_end held written g before c M p e = record { words = held before; checked = short refl (rw M.parts.places at p); there = e }
