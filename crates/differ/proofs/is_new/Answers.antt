-- `differ::is_new` meets its contract. The invariant: word i is on its way down the tree of those before it, which nothing has changed.
use mathlib.Core.Path.{refl, sym, ◌∙◌}
use Rattle.paper.proofs.Test.{true_false}
use Rattle.differ.proofs.Hanging.{seek-met, seek-new, seek-hung}
use Rattle.differ.proofs.is_new.Goals as goal

pub returns-then-next-eq0 : goal.returns-then-next-eq0
returns-then-next-eq0 c =
    let H = c.loop-p.invariant.0 in
    let S = c.loop-p.invariant.1 in
    let none = sym c.from-next.ensures ∙ c.if-next-eq0.true in
    record { value = seek-new H S c.loop-p-test.true none; hung_2 = λ e. seek-hung H S c.loop-p-test.true none c.requires.le_i.0 c.requires.le_i.2 }

pub returns : goal.returns
returns c = record { value = seek-met c.loop-p.invariant.0 c.loop-p.invariant.1 c.loop-p-test.false; hung_2 = λ e. true_false e refl }
