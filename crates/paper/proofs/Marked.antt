-- What the paper's sheet computes to: its layout, its marked table, and the replies to its question. All but the road distances is by computing alone.
use Prim.Native.Nat.{ℕ, ◌+◌, ◌*◌, ◌<◌, ◌≤◌}
use mathlib.Core.Path.{◌≡◌, refl}
use mathlib.Core.Bool.{true}
use mathlib.Core.List.{List, [], ◌∷◌, ◌++◌}
use lib.Dec.{leb, ltb}
use lib.ListN.{length, get_or, take, drop, replicate}
use borrow.Author.Tests.{leb-true, ltb-true}
use Rattle.paper.specs.Sizes.{outwardly, inwardly}
use Rattle.paper.specs.Test.{every}
use Rattle.paper.specs.Served.{served}
use Rattle.paper.specs.Sheet.{map_of, offices_of, word}
use Rattle.paper.specs.Cell.{cell}
use Rattle.paper.specs.Crow.{crow}
use Rattle.paper.specs.Road.{arrived, along, IsD}
use Rattle.paper.specs.Layout.{Bytes, layout}
use Rattle.paper.specs.Verdict.{verdict}
use Rattle.paper.specs.Trail.{start, refine}
use Rattle.paper.specs.Quest.{outward, inward}
use Rattle.paper.specs.Listing.{listing}
use Rattle.paper.specs.Reply.{reply}
use Rattle.paper.specs.Marked.{bytes, words, sheet, map, offices, line, outcome, MarkedTable, MarkedInward}
use Rattle.paper.proofs.Test.{every_true}
use Rattle.paper.proofs.Road.{road_least}

pub sheet_size : length sheet ≡ 316
unfolding sheet
sheet_size = refl

pub sheet-bytes : Bytes sheet
unfolding sheet every
sheet-bytes i p = ltb-true (get_or sheet i 0) 256 (every_true 316 (λ i. ltb (get_or sheet i 0) 256) refl i p)

pub sheet_laid : layout sheet ≡ 0
unfolding layout sheet word
sheet_laid = refl

-- the road distances
abbrev pub roads : List ℕ
roads = 0 ∷ 6 ∷ 11 ∷ 9 ∷ 6 ∷ 0 ∷ 5 ∷ 15 ∷ 11 ∷ 5 ∷ 0 ∷ 20 ∷ 9 ∷ 15 ∷ 20 ∷ 0 ∷ []

abbrev pub table : ℕ → ℕ → ℕ
table u v = get_or roads (4 * u + v) 0

pub table_verdict : verdict map table ≡ 0
unfolding verdict map_of sheet word
table_verdict = refl

-- no stage i makes the table's road to v shorter
least_by : (v : ℕ) → every 6 (λ i. leb (table (map.tail i) v) (map.furlongs i + table (map.head i) v)) ≡ true
    → (i : ℕ) → i < map.stages → table (map.tail i) v ≤ map.furlongs i + table (map.head i) v
unfolding map_of sheet word
least_by v h i p = leb-true _ _ (every_true 6 (λ i. leb (table (map.tail i) v) (map.furlongs i + table (map.head i) v)) h i p)

-- 2 to 1, 1 to 0, 0 to 3
from_2_to_3 : IsD map 2 3 20
unfolding map_of sheet word every
from_2_to_3 = record {
  road = along 4 (ltb-true 4 6 refl) refl (along 2 (ltb-true 2 6 refl) refl (along 1 (ltb-true 1 6 refl) refl arrived));
  least = λ l r. road_least (λ u. table u 3) refl (least_by 3 refl) r;
}

-- 0 to 1, 1 to 2
from_0_to_2 : IsD map 0 2 11
unfolding map_of sheet word every
from_0_to_2 = record {
  road = along 0 (ltb-true 0 6 refl) refl (along 3 (ltb-true 3 6 refl) refl arrived);
  least = λ l r. road_least (λ u. table u 2) refl (least_by 2 refl) r;
}

pub marked : MarkedTable
unfolding cell crow start refine listing map_of offices_of sheet word
marked = record {
  p1 = (refl, refl, refl);
  p2 = refl;
  p3 = refl;
  p4 = refl;
  p5 = from_2_to_3;
  p6 = from_0_to_2;
  p7 = (refl, refl, refl);
  p8 = refl;
  p9 = refl;
  p10 = refl;
}

-- 3 to 0, and from there as above
from_3_to_2 : IsD map 3 2 20
unfolding map_of sheet word every
from_3_to_2 = record {
  road = along 5 (ltb-true 5 6 refl) refl from_0_to_2.road;
  least = λ l r. road_least (λ u. table u 2) refl (least_by 2 refl) r;
}

from_1_to_2 : IsD map 1 2 5
unfolding map_of sheet word every
from_1_to_2 = record {
  road = along 3 (ltb-true 3 6 refl) refl arrived;
  least = λ l r. road_least (λ u. table u 2) refl (least_by 2 refl) r;
}

pub marked-inward : MarkedInward
unfolding start listing map_of offices_of sheet word
marked-inward = record { roads = (from_0_to_2, from_3_to_2, from_1_to_2); firsts = (refl, refl, refl); list = refl }

-- two offices at place 3, asked from place 1: the second reaches its length while the first still waits at it, and the lower number is listed first
equal_roads : outcome (listing map (outward (record { count = 2; stand = λ i. 3 }) 1) 2) ≡ served (record { total = 2; lines = line 0 15 15 1 104 ∷ line 1 15 15 1 104 ∷ [] })
unfolding listing map_of sheet word
equal_roads = refl

-- inward to place 3, office 2 leads with 4 to 15 while office 0 waits at 9: it is refined once, towards place 3
inward-refined : outcome (listing map (inward offices 3) 3) ≡ served (record { total = 1; lines = line 1 0 0 0 104 ∷ line 0 9 9 0 101 ∷ line 2 15 15 1 102 ∷ [] })
unfolding listing map_of offices_of sheet word
inward-refined = refl

-- the replies to q = 2, k = 2, outward and inward, over slices that are one word longer than needed and hold sevens
question_replied : reply sheet 2 2 outwardly (replicate 11 7) (replicate 19 7) ≡ record {
  number = 0;
  count = 2;
  refinements = 5;
  answer = 2 ∷ 5 ∷ 5 ∷ 1 ∷ 102 ∷ 0 ∷ 11 ∷ 11 ∷ 2 ∷ 101 ∷ 7 ∷ [];
  working = replicate 18 0 ++ (7 ∷ []);
}
unfolding reply sheet word
question_replied = refl

inward-replied : reply sheet 2 2 inwardly (replicate 11 7) (replicate 19 7) ≡ record {
  number = 0;
  count = 2;
  refinements = 0;
  answer = 2 ∷ 5 ∷ 5 ∷ 0 ∷ 102 ∷ 0 ∷ 11 ∷ 11 ∷ 0 ∷ 101 ∷ 7 ∷ [];
  working = replicate 18 0 ++ (7 ∷ []);
}
unfolding reply sheet word
inward-replied = refl

-- a direction that is neither, with a k and slices that would be refused too: 7 comes first, and nothing is touched
neither_replied : reply sheet 2 0 2 (replicate 1 7) [] ≡ record { number = 7; count = 0; refinements = 0; answer = 7 ∷ []; working = [] }
unfolding reply sheet word
neither_replied = refl

-- the words with one block more, of place 0, that covers place 0's own cell alone: the 34th word on
own_block : List ℕ
own_block = take 32 words ++ (8 ∷ 0 ∷ 0 ∷ 0 ∷ 0 ∷ 0 ∷ 0 ∷ drop 33 words)

own_block_laid : layout (bytes own_block) ≡ 0
unfolding layout word bytes words own_block
own_block_laid = refl

own_block_useless : verdict (map_of (bytes own_block)) table ≡ 15
unfolding verdict map_of word bytes words own_block
own_block_useless = refl
