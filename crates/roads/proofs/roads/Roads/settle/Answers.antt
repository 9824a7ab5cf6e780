-- `Roads::settle` meets its contract. The invariant is `Settling`. The measure is how many places are not settled.
use native.Mathlib.Omega.{arith}
use Rattle.roads.proofs.Settling.{settling_end, settling-less, settling-step}
use Rattle.roads.proofs.roads.Roads.settle.Goals as goal

pub returns-then-t-ge-NONE-clause-towards : goal.returns-then-t-ge-NONE-clause-towards
returns-then-t-ge-NONE-clause-towards c = settling_end c.args.self.now.ready c.loop-t.invariant c.top-t.ensures (omega (arith, c.if-t-ge-NONE.true))

pub loop-t-smaller : goal.loop-t-smaller
loop-t-smaller c = settling-less c.args.self.now.ready c.loop-t.invariant c.top-t.ensures c.if-t-ge-NONE.false c.change.ensures.same c.change.ensures.played_2 c.spread.ensures.after

pub loop-t-preserved : goal.loop-t-preserved
loop-t-preserved c = settling-step c.args.self.now.ready c.loop-t.invariant c.top-t.ensures c.if-t-ge-NONE.false c.change.ensures.same c.change.ensures.played_2 c.spread.ensures.after c.spread.ensures.visit
