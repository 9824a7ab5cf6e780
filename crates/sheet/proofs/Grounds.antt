-- A sheet with nothing due gives its ground, its map and its list; a map that is read off the bytes gives its ground, and with a book its chart.
use Prim.Native.Nat.{ℕ, ◌+◌, ◌-◌, ◌*◌, ◌/◌, ◌≤◌, ◌<◌}
use native.Mathlib.Omega.{arith}
use mathlib.Core.Path.{◌≡◌, ap, ◌∙◌}
use mathlib.Core.List.{List}
use lib.ListN.{length, get_or, take, drop, length-drop}
use lib.Seq.{get_or-drop, take_all}
use Rattle.paper.specs.declared.Counts.{Counts}
use Rattle.paper.specs.Sheet.{word, map_of, offices_in, offices_of}
use Rattle.paper.specs.Layout.{Bytes, sections, layout}
use Rattle.paper.specs.Ground.{Lawful}
use Rattle.paper.proofs.LaidOut.{Grounded}
use Rattle.paper.proofs.Test.{or_left}
use Rattle.paper.proofs.Laid.{Passed, passed, blocks_lie_lem, grounded, gazetteer_lt, ratio_lt, offices_stand}
use Rattle.paper.proofs.Ground.{same_refl}
use Rattle.sheet.specs.Laid.{counts_of, Sectioned, offices_from, list_from}
use Rattle.sheet.specs.Book.{Leads}
use Rattle.sheet.specs.Ground.{Ground, Mapped, Charted, Roll}
use Rattle.sheet.proofs.Room.{Room, room, parted, offices-counted, offices_few, offices_end}

-- places and blocks in plain sentences
pub ground_rules : {g : List ℕ} {c : Counts} → Bytes g → Ground g c → Grounded (map_of g)
ground_rules {g} {c} bytes G =
    let R : Room g c = room g c G.parts in
    grounded (map_of g) (omega (arith, R.some, R.places)) (omega (arith, R.within.places, R.places)) (omega (arith, R.within.blocks, R.blocks))
    (λ b p. ratio_lt g bytes b) G.places G.blocks

module _ {g : List ℕ} {c : Counts} (M : Mapped g c) where
  pub mapped_ground : Ground g c
  mapped_ground = record { parts = M.parts; places = M.places; blocks = blocks_lie_lem (map_of g) M.blocks }

  pub mapped_lawful : Bytes g → Lawful (map_of g)
  mapped_lawful bytes =
      let R : Room g c = room g c M.parts in
      record {
        some = omega (arith, R.some, R.places);
        places = omega (arith, R.within.places, R.places);
        stages = omega (arith, R.within.stages, R.stages);
        blocks = omega (arith, R.within.blocks, R.blocks);
        gazetteer = λ v p. gazetteer_lt g bytes v;
        ratios = λ b p. ratio_lt g bytes b;
        placed = M.places;
        staged = M.stages;
        blocked = M.blocks;
      }

  pub mapped_charted : Bytes g → (first heads lengths : List ℕ) → Leads (map_of g) first heads lengths → Charted g first heads lengths (map_of g)
  mapped_charted bytes first heads lengths L = record { ground = same_refl (map_of g); lawful = mapped_lawful bytes; leads = L }

-- the part of a slice from byte a on, as it is lent
pub rest_is : (a n : ℕ) (s : List ℕ) → a ≡ n → take (length s - a) (drop a s) ≡ drop n s
rest_is a n s e = take_all (length s - a) (drop a s) (omega (arith, length-drop a s)) ∙ ap (λ (k : ℕ). drop k s) e

-- a list of offices, word by word from byte 4 × a of a sheet on
word-drop : (a i : ℕ) (s : List ℕ) → word (drop (4 * a) s) i ≡ word s (a + i)
unfolding word
word-drop a i s = rw (first, at 1, at 2, at 3)
  where
    first : get_or (drop (4 * a) s) (4 * i) 0 ≡ get_or s (4 * (a + i)) 0
    first = get_or-drop (4 * a) s (4 * i) 0 ∙ ap (λ (k : ℕ). get_or s k 0) (omega arith)

    at : (j : ℕ) → get_or (drop (4 * a) s) (4 * i + j) 0 ≡ get_or s (4 * (a + i) + j) 0
    at j = get_or-drop (4 * a) s (4 * i + j) 0 ∙ ap (λ (k : ℕ). get_or s k 0) (omega arith)

module _ (s : List ℕ) (c : Counts) (S : Sectioned s c) where
  pub list_size : length (drop (list_from c) s) ≡ 4 * c.offices
  list_size = omega (arith, length-drop (list_from c) s, offices_end s c S)

  pub list_stand : (i : ℕ) → word (drop (list_from c) s) i ≡ (offices_of s).stand i
  unfolding offices_of
  list_stand i = word-drop (offices_from c + 1) i s ∙ ap (λ (a : ℕ). word s (a + 1 + i)) (room s c (parted s c S)).offices_at_lem

  -- the offices of the sheet are those of the list
  pub list_offices : offices_in (drop (list_from c) s) ≡ offices_of s
  unfolding offices_in offices_of
  list_offices = λ k. record { count = count k; stand = λ i. list_stand i k }
    where
      count : length (drop (list_from c) s) / 4 ≡ (offices_of s).count
      count = omega (arith, list_size, offices-counted s c S)

-- a list of n offices
module _ {l : List ℕ} {n places : ℕ} (R : Roll l n places) where
  pub roll_count : n ≡ (offices_in l).count
  unfolding offices_in
  roll_count = omega (arith, R.size)

  pub roll_room : (i : ℕ) → i < n → 4 * i + 4 ≤ length l
  roll_room i p = omega (arith, R.size)

  pub roll_stand : (i : ℕ) → i < n → (offices_in l).stand i < places
  unfolding offices_in
  roll_stand i p = R.stands i p

-- a sheet with nothing due
module _ (s : List ℕ) (c : Counts) (h : layout s ≡ 0) (e : c ≡ counts_of s) where
  pub sectioned : Sectioned s c
  unfolding layout
  sectioned = record { whole = or_left (sections s) _ h; counts = e }

  pub laid_mapped : Mapped s c
  laid_mapped =
      let P : Passed s = passed s h in
      record { parts = parted s c sectioned; places = P.places; stages = P.stages; blocks = P.blocks }

  pub laid_roll : Roll (drop (list_from c) s) c.offices c.places
  laid_roll = record {
    few = offices_few s c sectioned;
    size = list_size s c sectioned;
    stands = λ i p. omega (
      arith,
      list_stand s c sectioned i,
      (room s c (parted s c sectioned)).places,
      offices_stand (map_of s) (offices_of s) (passed s h).offices i (omega (arith, offices-counted s c sectioned)),
    );
  }
