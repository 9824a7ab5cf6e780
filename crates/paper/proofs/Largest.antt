-- The largest numbers: what the bounds come to, and a sheet on which the least and the most crow distance and the largest high end are met and a refinement
-- adds to it, so that what `sheet_within` asks of a sheet and of a walk can be had.
use Prim.Native.Nat.{ℕ, ◌+◌, ◌*◌, ◌-◌, ◌/◌, ◌≤◌, ◌<◌}
use native.Mathlib.Omega.{arith}
use mathlib.Core.Path.{◌≡◌, refl}
use mathlib.Core.List.{List, [], ◌∷◌}
use lib.Dec.{ltb}
use lib.ListN.{get_or}
use borrow.Author.Tests.{ltb-true}
use Rattle.paper.specs.Sizes.{grid_side, ratio_unit, ratio_most, crow_unit, road_most, word_bytes}
use Rattle.paper.specs.Test.{every}
use Rattle.paper.specs.Served.{served}
use Rattle.paper.specs.Map.{Map}
use Rattle.paper.specs.Sheet.{map_of, word}
use Rattle.paper.specs.Crow.{crow, crow_across, crow_most}
use Rattle.paper.specs.Stage.{stage_of}
use Rattle.paper.specs.Block.{block_of}
use Rattle.paper.specs.Road.{IsD}
use Rattle.paper.specs.Layout.{Bytes, layout}
use Rattle.paper.specs.Words.{as_bytes}
use Rattle.paper.specs.Trail.{Ends, between, Trail, start}
use Rattle.paper.specs.Bounds.{Met, first, Summed}
use Rattle.paper.proofs.Test.{every_true}
use Rattle.paper.proofs.Holds.{Any, given}
use Rattle.paper.proofs.Laid.{laid_out}
use Rattle.paper.proofs.LaidOut.{LaidOut}
use Rattle.paper.proofs.Crow.{crow_ge, crow_longest}
use Rattle.paper.proofs.Far.{distance_far}
use Rattle.paper.proofs.Ends.{low_most, high_most, Most, between_most}
use Rattle.paper.proofs.Bounds.{sheet_within}

-- a high ratio that is true of every pair, since no road is longer and no two places are nearer by crow
abbrev pub ratio_enough : ℕ
ratio_enough = ratio_unit * road_most / crow_unit

-- what the bounds come to: the ends of the largest ratio over the longest crow distance, the longest road, and that ratio, which a word holds
pub record Figures : Type 0 where
  pub low : low_most ≡ 97088700394
  pub high : high_most ≡ 97088700393
  pub road : road_most ≡ 67042305
  pub ratio : ratio_enough ≡ 4290707520
  pub fits : ratio_enough ≤ ratio_most

pub figures : Figures
figures = record { low = omega (arith, crow_longest); high = omega (arith, crow_longest); road = refl; ratio = refl; fits = omega arith }

-- no end is larger, before the walked length is added
pub ends_largest : (s : List ℕ) → Bytes s → layout s ≡ 0 → (u v : ℕ) → u < (map_of s).places → v < (map_of s).places
    → (e : Ends) → between (map_of s) u v ≡ served e → Most e
ends_largest s bytes h u v hu hv e q = given Any Most (between (map_of s) u v) e q (between_most (laid_out s bytes h).ground u v hu hv)

-- so a word holds a true high ratio for any two places
pub ratio_enough_lem : {m : Map} → LaidOut m → (u v d : ℕ) → u < m.places → v < m.places → (u ≡ v → ⊥) → IsD m u v d → ratio_unit * d ≤ ratio_enough * crow m u v
ratio_enough_lem L u v d hu hv ne D = omega (arith, distance_far L v hu D, crow_ge L.ground u v hu hv ne)

-- three places, two of them at opposite corners, a stage from each, and a block for each with the ratios 0 and 2^32 - 1
corners : List ℕ
unfolding as_bytes
corners = as_bytes word_bytes (
    3 ∷ 0 ∷ 0 ∷ 1 ∷ 1 ∷ 0 ∷ 2 ∷ 1023 ∷ 1023 ∷ 4294967295 ∷
    3 ∷ 0 ∷ 2 ∷ 65535 ∷ 1 ∷ 0 ∷ 65535 ∷ 2 ∷ 1 ∷ 65535 ∷
    3 ∷ 0 ∷ 0 ∷ 10 ∷ 0 ∷ 0 ∷ 4294967295 ∷ 1 ∷ 0 ∷ 10 ∷ 0 ∷ 0 ∷ 4294967295 ∷ 2 ∷ 0 ∷ 10 ∷ 0 ∷ 0 ∷ 4294967295 ∷
    0 ∷ [])

abbrev map : Map
map = map_of corners

corners_bytes : Bytes corners
unfolding corners as_bytes every
corners_bytes i p = ltb-true (get_or corners i 0) 256 (every_true 160 (λ i. ltb (get_or corners i 0) 256) refl i p)

corners_laid : layout corners ≡ 0
unfolding layout word corners as_bytes
corners_laid = refl

-- both bounds of a crow distance are met: by neighbours, and from corner to corner
corners_near : crow map 0 1 ≡ crow_unit
unfolding crow map_of word corners as_bytes
corners_near = refl

corners_far : crow map 0 2 ≡ crow_most
unfolding crow map_of word corners as_bytes
corners_far = refl

abbrev widest : Ends
widest = record { low = 0; high = high_most }

corners_widest : between map 0 2 ≡ served widest
unfolding between map_of word corners as_bytes crow
corners_widest = refl

-- the first trail from place 1 to the far corner, which is refined by way of the near one
abbrev trail : Trail
trail = record { via = 1; walked = 0; low = 0; high = ratio_most * crow_across (grid_side - 2) (grid_side - 1) / ratio_unit; stages = 0 }

corners_met : Met map 1 2 trail
unfolding start map_of word corners as_bytes crow
corners_met = first refl

corners_summed : Summed (trail.walked + map.furlongs 1) widest
unfolding block_of stage_of map_of word corners as_bytes
corners_summed =
    (sheet_within corners corners_bytes corners_laid 1 2 (ltb-true 1 3 refl) (ltb-true 2 3 refl)
    ).sums trail corners_met (ltb-true 1 3 refl) 1 refl widest corners_widest
