-- The stage that a block names, by the book, on any map that has the ground and the book.
use Prim.Native.Nat.{ℕ, ◌+◌, ◌≤◌, ◌<◌}
use native.Mathlib.Omega.{arith}
use mathlib.Core.Path.{◌≡◌, refl, ◌∙◌}
use mathlib.Core.List.{List}
use lib.ListN.{length, get_or}
use Rattle.paper.specs.Sizes.{most_furlongs}
use Rattle.paper.specs.Map.{Map}
use Rattle.paper.specs.Sheet.{map_of}
use Rattle.paper.specs.Stage.{stage_of}
use Rattle.paper.proofs.LaidOut.{LaidOut}
use Rattle.paper.proofs.Laid.{lawful_laid}
use Rattle.sheet.specs.Ground.{Charted, Stocked, named}
use Rattle.sheet.proofs.Booked.{stage_at}

-- stage i is the one that u's block b names: it stands in the book, and leads to a place
pub record Led (m : Map) (heads lengths : List ℕ) (u b i : ℕ) : Type 0 where
  pub is : i ≡ stage_of m u (m.colour b)
  pub under : i < m.stages
  pub heads_long : m.stages ≤ length heads
  pub lengths_long : m.stages ≤ length lengths
  pub head : get_or heads i 0 ≡ m.head i
  pub furlongs : get_or lengths i 0 ≡ m.furlongs i
  pub placed : m.head i < m.places
  pub short : m.furlongs i ≤ most_furlongs

module _ {g first heads lengths : List ℕ} {m : Map} (C : Charted g first heads lengths m) where
  pub laid : LaidOut m
  laid = lawful_laid C.lawful

  pub led : (u b i : ℕ) → b < (map_of g).blocks → (map_of g).owner b ≡ u → i ≡ get_or first u 0 + (map_of g).colour b → Led m heads lengths u b i
  led u b i p e h =
      let q : b < m.blocks = omega (arith, C.ground.blocks) in
      let o : m.owner b ≡ u = C.ground.owner b q ∙ e in
      let hu : u < m.places = rw o at (laid.ground.owners b q) in
      let is : i ≡ stage_of m u (m.colour b) = omega (arith, stage_at m first heads lengths C.leads u (m.colour b) hu, C.ground.colour b q) in
      let under : i < m.stages = rw is (rw o at (laid.colours b q)) in
      record {
        is = is;
        under = under;
        heads_long = C.leads.to.long;
        lengths_long = C.leads.long.long;
        head = C.leads.to.each i under;
        furlongs = C.leads.long.each i under;
        placed = laid.heads i under;
        short = laid.short i under;
      }

-- stage i of a book leads to a place, and is as long as a stage may be
pub record Reads (places : ℕ) (heads lengths : List ℕ) (i : ℕ) : Type 0 where
  pub to : i < length heads
  pub long : i < length lengths
  pub placed : get_or heads i 0 < places
  pub short : get_or lengths i 0 ≤ most_furlongs

-- the stage that u's block b names does
pub reads : {g first heads lengths : List ℕ} → Stocked g first heads lengths → (u b i : ℕ) → b < (map_of g).blocks → (map_of g).owner b ≡ u
    → i ≡ get_or first u 0 + (map_of g).colour b → Reads (map_of g).places heads lengths i
reads {g} {first} {heads} {lengths} S u b i p e h =
    let is : i ≡ named g first b = rw e h in
    rw is (record { to = S.to b p; long = S.long b p; placed = S.placed b p; short = S.short b p })

-- and the book of any map that has the ground is such a book
pub stocked : {g first heads lengths : List ℕ} {m : Map} → Charted g first heads lengths m → Stocked g first heads lengths
stocked {g} {first} {heads} {lengths} {m} C =
    let L : (b : ℕ) → b < (map_of g).blocks → Led m heads lengths ((map_of g).owner b) b (named g first b) = λ b p. led C _ b _ p refl refl in
    record {
      places = omega (arith, C.ground.places, C.leads.begins.long);
      to = λ b p. omega (arith, L b p);
      long = λ b p. omega (arith, L b p);
      placed = λ b p. let l : Led m heads lengths ((map_of g).owner b) b (named g first b) = L b p in omega (arith, l.placed, l.head, C.ground.places);
      short = λ b p. let l : Led m heads lengths ((map_of g).owner b) b (named g first b) = L b p in omega (arith, l.short, l.furlongs);
    }
