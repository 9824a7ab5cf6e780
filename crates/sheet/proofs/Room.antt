-- Where the records stand once the sections are whole: what `word` asks of whoever reads them.
use Prim.Native.Nat.{ℕ, zero, suc, ◌+◌, ◌*◌, ◌≤◌}
use native.Mathlib.Omega.{arith}
use mathlib.Core.Path.{◌≡◌, refl}
use mathlib.Core.List.{List}
use lib.ListN.{length}
use Rattle.paper.specs.declared.Counts.{Counts}
use Rattle.paper.specs.Served.{served, refused}
use Rattle.paper.specs.Sizes.{place_words, stage_words, block_words, most_places, most_stages, most_blocks, most_offices}
use Rattle.paper.specs.Sheet.{word, stages_at, blocks_at, offices_at, map_of, offices_of}
use Rattle.paper.specs.Layout.{ends_at, layout}
use Rattle.paper.proofs.Laid.{Stands, stands, Parts, parts, Whole, whole}
use Rattle.sheet.specs.Laid.{counts_of, laid_by, laid_of, Sectioned, Within, stages_from, blocks_from, offices_from}
use Rattle.sheet.specs.Ground.{Parted}

-- the counts are those of the map, each within its most, and say where each section stands; the bytes go on as far as the blocks
pub record Room (g : List ℕ) (c : Counts) : Type 0 where
  pub within : Within c
  pub some : 1 ≤ c.places
  pub places : c.places ≡ (map_of g).places
  pub stages : c.stages ≡ (map_of g).stages
  pub blocks : c.blocks ≡ (map_of g).blocks
  pub stages_at_lem : stages_from c ≡ stages_at g
  pub blocks_at_lem : blocks_from c ≡ blocks_at g
  pub offices_at_lem : offices_from c ≡ offices_at g
  pub ends : 4 * offices_from c ≤ length g

pub room : (g : List ℕ) (c : Counts) → Parted g c → Room g c
unfolding map_of stages_at blocks_at offices_at
room g c P =
    let A : Stands g 0 1 most_places place_words = stands g 0 1 most_places place_words P.placed in
    let B : Stands g (stages_at g) 0 most_stages stage_words = stands g (stages_at g) 0 most_stages stage_words P.staged in
    let D : Stands g (blocks_at g) 0 most_blocks block_words = stands g (blocks_at g) 0 most_blocks block_words P.blocked in
    record {
      within = record { places = omega (arith, P, A); stages = omega (arith, P, B); blocks = omega (arith, P, D) };
      some = omega (arith, P, A);
      places = P.places;
      stages = P.stages;
      blocks = P.blocks;
      stages_at_lem = omega (arith, P);
      blocks_at_lem = omega (arith, P);
      offices_at_lem = omega (arith, P);
      ends = omega (arith, P, D);
    }

-- all four sections of a sheet
module _ (s : List ℕ) (c : Counts) (S : Sectioned s c) where
  pub parted : Parted s c
  unfolding counts_of map_of
  parted =
      let P : Parts s = parts s S.whole in
      rw S.counts (record { placed = P.places; staged = P.stages; blocked = P.blocks; places = refl; stages = refl; blocks = refl })

  -- the offices are as many as counted, and end with the sheet
  pub offices-counted : c.offices ≡ (offices_of s).count
  unfolding counts_of offices_of
  offices-counted = rw S.counts refl

  pub offices_few : c.offices ≤ most_offices
  unfolding counts_of
  offices_few = rw S.counts (whole s S.whole).offices.most

  pub offices_end : 4 * (offices_from c + 1 + c.offices) ≡ length s
  unfolding counts_of ends_at
  offices_end =
      let W : Whole s = whole s S.whole in
      let R : Room s c = room s c parted in
      let e : c.offices ≡ word s (offices_at s) = rw S.counts refl in
      omega (arith, W.ends, W.fours, R.offices_at_lem)

-- what the counts tell, and what the number of a refusal tells
module _ (s : List ℕ) where
  pub out_by : (c : Counts) (d : ℕ) → served c ≡ laid_by s d → (d ≡ 0) × (c ≡ counts_of s)
  out_by c zero h = (refl, cc)
  out_by c (suc d) h = let z : ◌≡◌ {A = ℕ} 0 1 = cc in absurd (omega arith)

  pub refused_by : (n d : ℕ) → refused n ≡ laid_by s d → (j : ℕ) × (n ≡ suc j) × (d ≡ suc j)
  refused_by n zero h = let z : ◌≡◌ {A = ℕ} 0 1 = cc in absurd (omega arith)
  refused_by n (suc d) h = (d, cc, refl)

  pub laid_counts : (c : Counts) → served c ≡ laid_of s → (layout s ≡ 0) × (c ≡ counts_of s)
  unfolding laid_of
  laid_counts c = out_by c (layout s)

  pub laid_number : (n : ℕ) → refused n ≡ laid_of s → (d : ℕ) × (n ≡ suc d) × (layout s ≡ suc d)
  unfolding laid_of
  laid_number n = refused_by n (layout s)
