-- `truth::judge` meets its contract: a slice that is too short, or the table filled.
use native.Mathlib.Nat.{mul-le-mul}
use native.Mathlib.Omega.{arith}
use Rattle.sheet.proofs.Room.{room}
use Rattle.truth.proofs.Surveyed.{short_end}
use Rattle.truth.proofs.judge.Goals as goal

pub overflow_mul-map : goal.overflow_mul-map
overflow_mul-map g c = let n = (room _ _ c.args.map.now.keeps.parts).within.places in omega (arith, mul-le-mul n n)

pub returns-then-room-map : goal.returns-then-room-map
returns-then-room-map g c = short_end _ _ _ _ _ c.args.map.now.keeps (omega (arith, c.if-room-map.true, c.room.ensures.room)) c.room.ensures.whole
