-- The words that the functions read stand within the ground, and what they hold is within its limits.
use Prim.Native.Nat.{ℕ, ◌+◌, ◌*◌, ◌^◌, ◌≤◌, ◌<◌}
use native.Mathlib.Omega.{arith}
use native.Mathlib.Nat.{pow-le-pow_right}
use mathlib.Core.Path.{◌≡◌}
use mathlib.Core.List.{List}
use lib.ListN.{length}
use Rattle.paper.specs.Sizes.{place_words, most_places, top_level}
use Rattle.paper.specs.Sheet.{map_of}
use Rattle.paper.specs.Layout.{Bytes}
use Rattle.paper.specs.declared.Cell.{Cell}
use Rattle.paper.specs.declared.Counts.{Counts}
use Rattle.paper.proofs.LaidOut.{Grounded}
use Rattle.paper.proofs.Laid.{PlaceOk, place_ok}
use Rattle.cells.specs.Cells.{OnGrid}
use Rattle.sheet.specs.Records.{LiesAt}
use Rattle.sheet.specs.Ground.{Ground}
use Rattle.sheet.proofs.Room.{Room, room}
use Rattle.sheet.proofs.Grounds.{ground_rules}

module _ {g : List ℕ} {c : Counts} (G : Ground g c) where
  pub standing : Room g c
  standing = room g c G.parts

  pub place_room : (v : ℕ) → v < c.places → 4 * (1 + place_words * v + place_words) ≤ length g
  place_room v p = omega (arith, standing)

  -- a place lies on the grid
  pub on_grid : (v : ℕ) (k : Cell) → v < c.places → LiesAt (map_of g) v k → OnGrid k
  on_grid v k p A =
      let P : PlaceOk (map_of g) v = place_ok (map_of g) G.places v (omega (arith, standing.places)) in
      record { x = omega (arith, A.x, P.x); y = omega (arith, A.y, P.y) }

  module _ (bytes : Bytes g) where
    pub rules : Grounded (map_of g)
    rules = ground_rules bytes G

    module _ (b : ℕ) (p : b < c.blocks) where
      one : b < (map_of g).blocks
      one = omega (arith, standing.blocks)

      -- the place and the code of a block are small enough for its key
      pub key_room : (o k : ℕ) → o ≡ (map_of g).owner b → k ≡ (map_of g).code b → (o < most_places) × (k < 4 ^ top_level)
      key_room o k e f = omega (arith, rules.owners b one, rules.places, rules.codes b one)

      pub level_room : (l : ℕ) → l ≡ (map_of g).level b → l ≤ top_level
      level_room l e = omega (arith, rules.levels b one)

      -- where a block ends
      pub end_room : (f l n : ℕ) → f ≡ (map_of g).code b → l ≡ (map_of g).level b → n ≡ 4 ^ l → f + n ≤ 2 * 4 ^ top_level
      end_room f l n e d h =
          let most : 4 ^ l ≤ 4 ^ top_level = pow-le-pow_right (omega arith) (level_room l d) in
          omega (arith, rules.codes b one)
