-- `cells::root` meets its contract. The invariant: the root is one of the next `span` numbers. The measure is `span`.
use native.Mathlib.Omega.{arith}
use Rattle.cells.proofs.Halving.{within_all, within_above, within_below, within_one, square_fits}
use Rattle.cells.proofs.root.Goals.{then-middle-n, else-middle-n}
use Rattle.cells.proofs.root.Goals as goal

pub loop-span-init : goal.loop-span-init
loop-span-init c = within_all c.requires

pub overflow_mul-middle : goal.overflow_mul-middle
overflow_mul-middle c = omega (arith, square_fits c.loop-span.invariant)

pub loop-span-preserved : goal.loop-span-preserved
loop-span-preserved c = elim c.if-middle-n.branch [
  | then-middle-n w ↦ rw w.root-is (within_above c.loop-span.invariant (omega arith) w.if-middle-n.true)
  | else-middle-n w ↦ rw w.root-is (within_below c.loop-span.invariant (omega arith) w.if-middle-n.false)
]

pub returns : goal.returns
returns c = within_one c.loop-span.invariant (omega arith)
