-- `Roads::spread` meets its contract. The invariant: what `spread` ensures, with j for 0. The measure is j, since a chain goes down.
use mathlib.Core.Path.{◌≡◌, ap, ◌∙◌}
use Prim.Native.Nat.{ℕ, ◌+◌, ◌-◌, ◌<◌}
use native.Mathlib.Omega.{arith}
use Rattle.roads.proofs.Steps.{after_then, turn-after, turn-visit}
use Rattle.roads.proofs.roads.Roads.spread.Goals as goal

pub loop-j-preserved : goal.loop-j-preserved
loop-j-preserved c =
    let l = c.loop-j in
    let R = c.args.self.now.ready in
    let some : 0 < l.j = omega (arith, c.loop-j-test.true) in
    let y-is = c.onward-y.ensures ∙ ap (λ (x : ℕ). c.args.d.0 + x) c.from.ensures.0 in
    let A = turn-after R some l.invariant.0 l.invariant.1.halfway y-is c.lower.auto.column c.lower.ensures in
    let F = turn-visit R some l.invariant.0 l.invariant.1.halfway y-is c.lower.auto.column c.lower.ensures in
    (omega (arith, R.down (l.j - 1) (omega (arith, l.invariant.0, some)), l.invariant.0), after_then l.invariant.1 A, λ m v p K G Q. F m v p K G (l.invariant.2 m v p K G Q))

pub returns-clause-visit : goal.returns-clause-visit
returns-clause-visit c =
    let e : c.loop-j.j ≡ 0 = omega (arith, c.loop-j-test.false) in
    rw e at c.loop-j.invariant.2
