-- The check: its number, and the slice that it is lent.
use Rattle.std.specs.Prelude.{ℕ, suc, ◌+◌, ◌*◌, ◌≤◌, ◌<◌, ◌≡◌, Bool, true, false, not, List, leb, eqb, length, get_or}
use Rattle.std.proofs.Math.Option.{Option, some, none}
use Rattle.paper.specs.Sizes.{ratio_unit}
use Rattle.paper.specs.Test.{both, every, any, due, or_else, first_nonzero}
use Rattle.paper.specs.Map.{Map}
use Rattle.paper.specs.Sheet.{map_of}
use Rattle.paper.specs.Crow.{crow}
use Rattle.paper.specs.Stage.{stage_of}
use Rattle.paper.specs.Block.{covers, block_of}
use Rattle.paper.specs.Road.{Road, IsD}
use Rattle.paper.specs.Truth.{Truth}
use Rattle.paper.specs.Layout.{layout}
use Rattle.paper.specs.Slice.{Untouched, cleared}

-- v in no block of u (12); wrong colour (13); ratio untrue (14)
abbrev pub fault_by : Map → (ℕ → ℕ → ℕ) → ℕ → ℕ → Option ℕ → ℕ
fault_by m d u v none = 12
fault_by m d u v (some b) =
    let i : ℕ = stage_of m u (m.colour b) in
    or_else (due (eqb (m.furlongs i + d (m.head i) v) (d u v)) 13)
    (due (both (leb (m.low b * crow m u v) (ratio_unit * d u v)) (leb (ratio_unit * d u v) (m.high b * crow m u v))) 14)

-- the lowest of 12, 13 and 14 for the pair, over a table d of road distances; 0 where none is due
unfoldable pub fault : Map → (ℕ → ℕ → ℕ) → ℕ → ℕ → ℕ
unfolding block_of stage_of crow
fault m d u v = elim (eqb u v) [ true ↦ 0 | false ↦ fault_by m d u v (block_of m u v) ]

-- the pairs by u and then v
unfoldable pub first_fault : Map → (ℕ → ℕ → ℕ) → ℕ
unfolding first_nonzero fault
first_fault m d = first_nonzero m.places (λ u. first_nonzero m.places (fault m d u))

-- the block b covers some place other than its own
unfoldable pub useful : Map → ℕ → Bool
unfolding any covers
useful m b = any m.places (λ v. both (not (eqb v (m.owner b))) (covers m (m.owner b) v b))

-- the first faulty pair's number, then 15
unfoldable pub verdict : Map → (ℕ → ℕ → ℕ) → ℕ
unfolding first_fault useful every
verdict m d = or_else (first_fault m d) (due (every m.blocks (useful m)) 15)

-- N × N
abbrev pub area : Map → ℕ
area m = m.places * m.places

-- word u × N + v is d u v, words beyond N × N are untouched
pub record Tabled (n : ℕ) (d : ℕ → ℕ → ℕ) (before after : List ℕ) : Type 0 where
  pub size : length after ≡ length before
  pub words : (u v : ℕ) → u < n → v < n → get_or after (u * n + v) 0 ≡ d u v
  pub rest : Untouched (n * n) before after

-- d holds the road distances of m
abbrev pub Distances : Map → (ℕ → ℕ → ℕ) → Type 0
Distances m d = (u v : ℕ) → u < m.places → v < m.places → IsD m u v (d u v)

-- how a check ends, over the number that the layout gives and the map: the check's number, and the slice that it was lent, at entry and at exit
pub data CheckedOn (laid : ℕ) (m : Map) (before : List ℕ) : ℕ → List ℕ → Type 0 where
  badly_laid : {n : ℕ} → laid ≡ suc n → CheckedOn laid m before (suc n) before
  short : laid ≡ 0 → length before < area m → CheckedOn laid m before 10 before
  cut_off : (u v : ℕ) → laid ≡ 0 → area m ≤ length before → u < m.places → v < m.places → ((l : ℕ) → Road m v u l → ⊥)
      → CheckedOn laid m before 11 (cleared (area m) before)
  judged : {after : List ℕ} (d : ℕ → ℕ → ℕ) → laid ≡ 0 → area m ≤ length before → Distances m d → Tabled m.places d before after
      → CheckedOn laid m before (verdict m d) after

-- the layout gives nothing, and the map tells the truth
pub record AcceptedOn (number : ℕ) (m : Map) : Type 0 where
  pub laid : number ≡ 0
  pub truth : Truth m

-- the same of an ordinary sheet
abbrev pub Checked : List ℕ → List ℕ → ℕ → List ℕ → Type 0
Checked s before = CheckedOn (layout s) (map_of s) before

abbrev pub Accepted : List ℕ → Type 0
Accepted s = AcceptedOn (layout s) (map_of s)
