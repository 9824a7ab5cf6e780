-- `sheet::places::places_hold` meets its contract: each test of the paper's rule by the function that makes it.
use mathlib.Core.Path.{◌≡◌, sym, ◌∙◌}
use Prim.Native.Nat.{ℕ, ◌≤◌}
use native.Mathlib.Omega.{arith}
use lib.ListN.{length, take, length-replicate}
use lib.Seq.{length-take-le}
use Rattle.paper.specs.Sizes.{most_places}
use Rattle.paper.specs.Test.{both, apart}
use Rattle.paper.specs.Sheet.{map_of}
use Rattle.paper.specs.Layout.{places_hold}
use Rattle.paper.proofs.Test.{both_false_left, both_so}
use Rattle.differ.specs.Tree.{same}
use Rattle.sheet.proofs.Placed.{places_fail, places-by}
use Rattle.sheet.proofs.Room.{room}
use Rattle.sheet.proofs.places.places_hold.Goals.{After-take_places, Else-not-take_places}
use Rattle.sheet.proofs.places.places_hold.Goals as goal

-- both slices are as long as there may be places
long : (c : After-take_places) → let n = c.args.parts.now.counts.places in (n ≤ length c.take_places.new.cells) × (n ≤ length c.take_places.new.numbers)
long c = let W = (room _ _ c.args.parts.now.parted).within in let z = length-replicate {A = ℕ} most_places 0 in (omega (arith, W, z, c.take_places.auto.cells), omega (arith, W, z, c.take_places.auto.numbers))

-- what the paper's rule comes to, once each place holds
by-words : (c : Else-not-take_places) → let n = c.args.parts.now.counts.places in let cells = take n c.take_places.new.cells in let numbers = take n c.take_places.new.numbers in
    both (apart (length cells) (same cells)) (apart (length numbers) (same numbers)) ≡ places_hold (map_of c.args.parts.now.bytes.now)
by-words c =
    let e = c.if-not-take_places.false in
    let L = long (goal.at.Else-not-take_places c).After-take_places in
    places-by _ _ _ _ (room _ _ c.args.parts.now.parted).places L.0 L.1 (sym c.take_places.ensures.value ∙ e) (c.take_places.ensures.taken e)

pub take_places-requires : goal.take_places-requires
take_places-requires c = let W = (room _ _ c.args.parts.now.parted).within in (omega (arith, W), omega (arith, W))

pub returns-then-not-take_places : goal.returns-then-not-take_places
returns-then-not-take_places c = places_fail _ c.args.parts.now.counts.places (room _ _ c.args.parts.now.parted).places (sym c.take_places.ensures.value ∙ c.if-not-take_places.true)

pub slice_bounds-cells-end : goal.slice_bounds-cells-end
slice_bounds-cells-end c = omega (arith, long (goal.at.slice_bounds-cells-end c).After-take_places)

pub slice_bounds-all_differ-end : goal.slice_bounds-all_differ-end
slice_bounds-all_differ-end c = sym (length-take-le _ _ (omega (arith, long (goal.at.slice_bounds-all_differ-end c).After-take_places)))

pub slice_bounds-numbers-end : goal.slice_bounds-numbers-end
slice_bounds-numbers-end c = omega (arith, long (goal.at.slice_bounds-numbers-end c).After-take_places)

pub slice_bounds-all_differ-end-then-all_differ : goal.slice_bounds-all_differ-end-then-all_differ
slice_bounds-all_differ-end-then-all_differ c = sym (length-take-le _ _ (omega (arith, long (goal.at.slice_bounds-all_differ-end-then-all_differ c).After-take_places)))

pub returns-then-all_differ : goal.returns-then-all_differ
returns-then-all_differ c = c.all_differ-then-all_differ.ensures ∙ sym (both_so _ (sym c.all_differ.ensures ∙ c.if-all_differ.true)) ∙ by-words (goal.at.returns-then-all_differ c).Else-not-take_places

pub returns-else-all_differ : goal.returns-else-all_differ
returns-else-all_differ c = let e = c.if-all_differ.false in e ∙ sym (both_false_left _ _ (sym c.all_differ.ensures ∙ e)) ∙ by-words (goal.at.returns-else-all_differ c).Else-not-take_places
