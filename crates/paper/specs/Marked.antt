-- The paper's sheet to work by, and its marked table.
use Rattle.std.specs.Prelude.{ℕ, ◌%◌, ◌/◌, ◌≡◌, List, [], ◌∷◌}
use Rattle.paper.specs.Served.{Served, served, and_then}
use Rattle.paper.specs.Map.{Map, Offices}
use Rattle.paper.specs.Quest.{Quest, outward, inward}
use Rattle.paper.specs.Sheet.{map_of, offices_of}
use Rattle.paper.specs.Cell.{cell}
use Rattle.paper.specs.Crow.{crow}
use Rattle.paper.specs.Road.{IsD}
use Rattle.paper.specs.Trail.{Trail, start, refine}
use Rattle.paper.specs.Listing.{Line, State, listing}

-- the bytes of words below 65,536
unfoldable pub bytes : List ℕ → List ℕ
bytes [] = []
bytes (w ∷ r) = w % 256 ∷ w / 256 ∷ 0 ∷ 0 ∷ bytes r

unfoldable pub words : List ℕ
words =
    4 ∷ 0 ∷ 0 ∷ 101 ∷ 3 ∷ 4 ∷ 102 ∷ 6 ∷ 8 ∷ 103 ∷ 0 ∷ 5 ∷ 104 ∷
    6 ∷ 0 ∷ 1 ∷ 6 ∷ 0 ∷ 3 ∷ 9 ∷ 1 ∷ 0 ∷ 6 ∷ 1 ∷ 2 ∷ 5 ∷ 2 ∷ 1 ∷ 5 ∷ 3 ∷ 0 ∷ 9 ∷
    7 ∷
    0 ∷ 32 ∷ 1 ∷ 1 ∷ 115 ∷ 116 ∷
    0 ∷ 36 ∷ 1 ∷ 0 ∷ 76 ∷ 77 ∷
    0 ∷ 128 ∷ 3 ∷ 0 ∷ 70 ∷ 71 ∷
    1 ∷ 0 ∷ 3 ∷ 0 ∷ 76 ∷ 308 ∷
    1 ∷ 128 ∷ 3 ∷ 1 ∷ 64 ∷ 64 ∷
    2 ∷ 0 ∷ 10 ∷ 0 ∷ 64 ∷ 192 ∷
    3 ∷ 0 ∷ 10 ∷ 0 ∷ 115 ∷ 308 ∷
    3 ∷ 0 ∷ 3 ∷ 1 ∷ []

unfoldable pub sheet : List ℕ
unfolding bytes words
sheet = bytes words

-- the program's input: q, k and the direction, then the sheet
unfoldable pub input : ℕ → ℕ → ℕ → List ℕ
unfolding bytes words
input q k d = bytes (q ∷ k ∷ d ∷ words)

abbrev pub map : Map
map = map_of sheet

abbrev pub offices : Offices
offices = offices_of sheet

-- a first interval
abbrev pub interval : ℕ → ℕ → ℕ → Served Trail
interval via a b = served (record { via = via; walked = 0; low = a; high = b; stages = 0 })

abbrev pub line : ℕ → ℕ → ℕ → ℕ → ℕ → Line
line n a b s g = record { number = n; low = a; high = b; stages = s; gazetteer = g }

-- what a question tells: the total of refinements, and the list
pub record Outcome : Type 0 where
  pub total : ℕ
  pub lines : List Line

abbrev pub outcome : Served State → Served Outcome
outcome r = and_then r (λ st. served (record { total = st.total; lines = st.lines }))

-- P1 to P10; P2 to P4 at the scale of document 02, item 11, the lines of P9 and P10 with the gazetteer numbers of item 2
pub record MarkedTable : Type 0 where
  pub p1 : (cell map 1 ≡ 37) × (cell map 2 ≡ 148) × (cell map 3 ≡ 34)
  pub p2 : crow map 0 1 ≡ 320
  pub p3 : crow map 1 3 ≡ 202
  pub p4 : crow map 2 3 ≡ 429
  pub p5 : IsD map 2 3 20
  pub p6 : IsD map 0 2 11
  pub p7 : (start map 2 (offices.stand 0) ≡ interval 2 10 30) × (start map 2 (offices.stand 1) ≡ interval 2 7 20) × (start map 2 (offices.stand 2) ≡ interval 2 5 15)
  pub p8 : and_then (start map 2 (offices.stand 1)) (refine map (offices.stand 1)) ≡ served (record { via = 1; walked = 5; low = 9; high = 20; stages = 1 })
  pub p9 : outcome (listing map (outward offices 2) 1) ≡ served (record { total = 1; lines = line 2 5 5 1 102 ∷ [] })
  pub p10 : outcome (listing map (outward offices 2) 2) ≡ served (record { total = 5; lines = line 2 5 5 1 102 ∷ line 0 11 11 2 101 ∷ [] })

-- inward to place 2: the road of office i is so long; its first interval
abbrev pub towards2 : Quest
towards2 = inward offices 2

abbrev pub runs : ℕ → ℕ → Type 0
runs i l = IsD map (towards2.from i) (towards2.to i) l

abbrev pub first : ℕ → Served Trail
first i = start map (towards2.from i) (towards2.to i)

-- document 02, item 4: road distances, first intervals, and the list, unrefined
pub record MarkedInward : Type 0 where
  pub roads : runs 0 11 × runs 1 20 × runs 2 5
  pub firsts : (first 0 ≡ interval 0 11 11) × (first 1 ≡ interval 3 13 32) × (first 2 ≡ interval 1 5 5)
  pub list : outcome (listing map towards2 2) ≡ served (record { total = 0; lines = line 2 5 5 0 102 ∷ line 0 11 11 0 101 ∷ [] })
