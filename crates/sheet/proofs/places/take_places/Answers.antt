-- `sheet::places::take_places` meets its contract. The invariant is `Placed`: the first i places hold, and their cells and numbers are taken.
use mathlib.Core.Path.{◌≡◌, refl, sym, ◌∙◌}
use mathlib.Core.Bool.{true}
use Prim.Native.Nat.{◌<◌}
use native.Mathlib.Omega.{arith}
use lib.ListN.{length-set}
use Rattle.paper.specs.Sizes.{grid_side}
use Rattle.paper.specs.Sheet.{map_of}
use Rattle.paper.specs.Layout.{place_holds}
use Rattle.paper.proofs.Test.{every_false}
use Rattle.sheet.proofs.Placed.{placed_start, placed_step, holds_on_grid}
use Rattle.sheet.proofs.Room.{room}
use Rattle.sheet.proofs.places.take_places.Goals.{After-place_holds, Else-not-place_holds}
use Rattle.sheet.proofs.places.take_places.Goals as goal

-- the place that was read is judged by the paper's rule
judged : (c : After-place_holds) → c.place_holds.result ≡ place_holds (map_of c.args.parts.now.bytes.now) c.loop-i.i
judged c = c.place_holds.ensures (map_of c.args.parts.now.bytes.now) c.loop-i.i c.cell_of-cell.ensures c.gazetteer_of-gazetteer.ensures

held : (c : Else-not-place_holds) → place_holds ((map_of c.args.parts.now.bytes.now)) ((c.loop-i.i)) ≡ true
held c = sym ((c.place_holds.ensures (map_of c.args.parts.now.bytes.now) c.loop-i.i c.cell_of-cell.ensures c.gazetteer_of-gazetteer.ensures)) ∙ c.if-not-place_holds.false

on_grid : (c : Else-not-place_holds) → let k = c.cell_of-cell.result in (k.x < grid_side) × (k.y < grid_side)
on_grid c = omega (arith, holds_on_grid _ _ (held c), c.cell_of-cell.ensures)

pub loop-i-init : goal.loop-i-init
loop-i-init c = (omega arith, refl, refl, placed_start _ _ _)

pub cell_of-cell-requires : goal.cell_of-cell-requires
cell_of-cell-requires c = omega (arith, room _ _ c.args.parts.now.parted)

pub gazetteer_of-gazetteer-requires : goal.gazetteer_of-gazetteer-requires
gazetteer_of-gazetteer-requires c = omega (arith, room _ _ c.args.parts.now.parted)

pub returns-then-not-place_holds-clause-value : goal.returns-then-not-place_holds-clause-value
returns-then-not-place_holds-clause-value c = sym (every_false c.args.parts.now.counts.places (place_holds (map_of c.args.parts.now.bytes.now)) c.loop-i.i c.loop-i-test.true (sym (judged (goal.at.returns-then-not-place_holds-clause-value c).After-place_holds) ∙ c.if-not-place_holds.true))

pub overflow_mul-cells : goal.overflow_mul-cells
overflow_mul-cells c = omega (arith, on_grid (goal.at.overflow_mul-cells c).Else-not-place_holds)

pub overflow_add-cells : goal.overflow_add-cells
overflow_add-cells c = omega (arith, on_grid (goal.at.overflow_add-cells c).Else-not-place_holds)

pub loop-i-preserved : goal.loop-i-preserved
loop-i-preserved c =
    let p = c.requires in
    let G = holds_on_grid _ _ (held (goal.at.loop-i-preserved c).Else-not-place_holds) in (
      omega arith,
      simp length-set c.loop-i.invariant.1,
      simp length-set c.loop-i.invariant.2,
      placed_step c.loop-i.invariant.3 _ _ (held (goal.at.loop-i-preserved c).Else-not-place_holds) (omega (arith, G, c.cell_of-cell.ensures, c.gazetteer_of-gazetteer.ensures)) (omega (arith, p, c.loop-i.invariant.1)) (omega (arith, p, c.loop-i.invariant.2)),
    )
