-- The layout of a sheet: 0, or the first of 1 to 6 that is due.
use Rattle.std.specs.Prelude.{ℕ, zero, suc, ◌+◌, ◌*◌, ◌/◌, ◌%◌, ◌^◌, ◌<◌, Bool, true, not, List, leb, ltb, eqb, length, get_or}
use Rattle.paper.specs.Sizes.{place_words, stage_words, block_words, office_words, most_places, most_stages, most_blocks, most_offices, grid_side, top_level, most_furlongs, most_leaving}
use Rattle.paper.specs.Test.{both, either, every, apart, due, or_else}
use Rattle.paper.specs.Order.{before}
use Rattle.paper.specs.Map.{Map, Offices}
use Rattle.paper.specs.Sheet.{word, stages_at, blocks_at, offices_at, map_of, offices_of}
use Rattle.paper.specs.Stage.{leaving}

-- every byte is below 256
abbrev pub Bytes : List ℕ → Type 0
Bytes s = (i : ℕ) → i < length s → get_or s i 0 < 256

-- how many words the sheet has
abbrev pub words_in : List ℕ → ℕ
words_in s = length s / 4

-- a section whose count stands at word a: the count is present (1) and in its range (2), and the records are present (1)
unfoldable pub section : List ℕ → ℕ → ℕ → ℕ → ℕ → ℕ
section s a least most size =
    or_else (due (ltb a (words_in s)) 1)
    (or_else (due (both (leb least (word s a)) (leb (word s a) most)) 2)
    (due (leb (a + 1 + size * word s a) (words_in s)) 1))

-- where the last section ends
unfoldable pub ends_at : List ℕ → ℕ
unfolding offices_at
ends_at s = offices_at s + 1 + word s (offices_at s)

-- the length is a multiple of four, the sections stand one after the other, and nothing is left over
unfoldable pub sections : List ℕ → ℕ
unfolding section ends_at
sections s =
    or_else (due (eqb (length s % 4) 0) 1)
    (or_else (section s 0 1 most_places place_words)
    (or_else (section s (stages_at s) 0 most_stages stage_words)
    (or_else (section s (blocks_at s) 0 most_blocks block_words)
    (or_else (section s (offices_at s) 0 most_offices office_words)
    (due (eqb (ends_at s) (words_in s)) 1)))))

-- x and y are 0 to 1,023, the gazetteer number is not 0
unfoldable pub place_holds : Map → ℕ → Bool
place_holds m i = both (both (ltb (m.x i) grid_side) (ltb (m.y i) grid_side)) (not (eqb (m.gazetteer i) 0))

-- places i and j share a cell
abbrev pub sharing : Map → ℕ → ℕ → Bool
sharing m i j = both (eqb (m.x i) (m.x j)) (eqb (m.y i) (m.y j))

-- they share a gazetteer number
abbrev pub sharing_number : Map → ℕ → ℕ → Bool
sharing_number m i j = eqb (m.gazetteer i) (m.gazetteer j)

-- each place holds, no two share a cell, and no two a gazetteer number
unfoldable pub places_hold : Map → Bool
unfolding every place_holds apart
places_hold m = both (every m.places (place_holds m)) (both (apart m.places (sharing m)) (apart m.places (sharing_number m)))

-- tail and head are places and different, the length is 1 to 65,535
unfoldable pub stage_holds : Map → ℕ → Bool
stage_holds m i =
    both (both (ltb (m.tail i) m.places) (ltb (m.head i) m.places))
    (both (not (eqb (m.tail i) (m.head i))) (both (leb 1 (m.furlongs i)) (leb (m.furlongs i) most_furlongs)))

-- stage i comes after the one before it by (tail, head)
unfoldable pub stage_ascends : Map → ℕ → Bool
stage_ascends m zero = true
stage_ascends m (suc i) = before (m.tail i) (m.head i) (m.tail (suc i)) (m.head (suc i))

-- each stage holds, they strictly ascend, and at most 8 leave a place
unfoldable pub stages_hold : Map → Bool
unfolding every stage_holds stage_ascends leaving
stages_hold m =
    both (every m.stages (stage_holds m)) (both (every m.stages (stage_ascends m)) (every m.places (λ u. leb (leaving m u) most_leaving)))

-- the place is one, the level 0 to 10, the code below 4^10 and a multiple of 4^level, low at most high: all but the colour, which speaks of stages
unfoldable pub block_lies : Map → ℕ → Bool
block_lies m i =
    both (both (ltb (m.owner i) m.places) (leb (m.level i) top_level))
    (both (both (ltb (m.code i) (4 ^ top_level)) (eqb (m.code i % 4 ^ m.level i) 0)) (leb (m.low i) (m.high i)))

-- and the colour is below the number of stages that leave the place
unfoldable pub block_holds : Map → ℕ → Bool
unfolding block_lies leaving
block_holds m i = both (block_lies m i) (ltb (m.colour i) (leaving m (m.owner i)))

-- block i comes after the one before it by place, and within a place by code without overlap
unfoldable pub block_ascends : Map → ℕ → Bool
block_ascends m zero = true
block_ascends m (suc i) =
    either (ltb (m.owner i) (m.owner (suc i))) (both (eqb (m.owner i) (m.owner (suc i))) (leb (m.code i + 4 ^ m.level i) (m.code (suc i))))

unfoldable pub blocks_lie : Map → Bool
unfolding every block_lies block_ascends
blocks_lie m = both (every m.blocks (block_lies m)) (every m.blocks (block_ascends m))

unfoldable pub blocks_hold : Map → Bool
unfolding every block_holds block_ascends
blocks_hold m = both (every m.blocks (block_holds m)) (every m.blocks (block_ascends m))

-- each office stands at a place
unfoldable pub offices_hold : Map → Offices → Bool
unfolding every
offices_hold m o = every o.count (λ i. ltb (o.stand i) m.places)

unfoldable pub layout : List ℕ → ℕ
unfolding sections places_hold stages_hold blocks_hold offices_hold map_of offices_of
layout s =
    or_else (sections s)
    (or_else (due (places_hold (map_of s)) 3)
    (or_else (due (stages_hold (map_of s)) 4)
    (or_else (due (blocks_hold (map_of s)) 5) (due (offices_hold (map_of s) (offices_of s)) 6))))
