-- `Mapped::road_book` meets its contract: a column for the tails, heads and lengths, and then where the stages of each place begin.
use mathlib.Core.Path.{◌≡◌}
use Prim.Native.Nat.{◌+◌}
use native.Mathlib.Omega.{arith}
use lib.ListN.{length}
use lib.Seq.{length-take-le}
use Rattle.paper.specs.Sheet.{map_of, stages_at}
use Rattle.sheet.proofs.Booked.{tails-ascend, book-of}
use Rattle.sheet.proofs.Room.{room}
use Rattle.sheet.proofs.ground.Mapped.road_book.Goals.{After-stages_at-at, After-column}
use Rattle.sheet.proofs.ground.Mapped.road_book.Goals as goal

-- where the first tail stands
from : (c : After-stages_at-at) → c.stages_at-at.result + 1 ≡ stages_at c.args.self.now.bytes.now + 1
from c = omega (arith, (room _ _ c.args.self.now.keeps.parts).stages_at_lem, c.stages_at-at.ensures)

-- there is a tail for each stage
tails : (c : After-column) → length c.column.new.out ≡ (map_of c.args.self.now.bytes.now).stages
tails c = omega (arith, c.column.auto.out, length-take-le _ _ c.requires.tail, (room _ _ c.args.self.now.keeps.parts).stages)

pub stages_at-at-requires : goal.stages_at-at-requires
stages_at-at-requires c = (room _ _ c.args.self.now.keeps.parts).within

pub column-requires : goal.column-requires
column-requires c = λ i p. omega (arith, room _ _ c.args.self.now.keeps.parts, length-take-le _ _ c.requires.tail)

pub column-requires-2 : goal.column-requires-2
column-requires-2 c = λ i p. omega (arith, room _ _ c.args.self.now.keeps.parts, length-take-le _ _ c.requires.head)

pub column-requires-3 : goal.column-requires-3
column-requires-3 c = λ i p. omega (arith, room _ _ c.args.self.now.keeps.parts, length-take-le _ _ c.requires.furlongs)

pub starts-requires-clause-few : goal.starts-requires-clause-few
starts-requires-clause-few c = omega (arith, room _ _ c.args.self.now.keeps.parts, tails (goal.at.starts-requires-clause-few c).After-column)

pub starts-requires-clause-ascending : goal.starts-requires-clause-ascending
starts-requires-clause-ascending c =
    let at = goal.at.starts-requires-clause-ascending c in
    tails-ascend _ c.args.self.now.keeps.stages _ (from at.After-stages_at-at) _ (tails at.After-column) c.column.ensures

pub returns-clause-book : goal.returns-clause-book
returns-clause-book c =
    let R = room _ _ c.args.self.now.keeps.parts in
    let at = goal.at.returns-clause-book c in
    book-of _ c.args.self.now.keeps.stages _ (from at.After-stages_at-at) _ (tails at.After-column) c.column.ensures _ _ _ _ _ _ _
    (omega (arith, c.starts.auto.first, length-take-le _ _ c.requires.places, R.places))
    (omega (arith, c.column-2.auto.out, length-take-le _ _ c.requires.head, R.stages))
    (omega (arith, c.column-3.auto.out, length-take-le _ _ c.requires.furlongs, R.stages))
    c.starts.ensures c.column-2.ensures c.column-3.ensures
