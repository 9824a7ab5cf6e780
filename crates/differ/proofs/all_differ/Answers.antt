-- `differ::all_differ` meets its contract. The invariant: the words before i differ, and hang in the tree.
use mathlib.Core.Path.{refl, sym, ◌∙◌}
use native.Mathlib.Omega.{arith}
use Rattle.paper.specs.Test.{every, apart}
use Rattle.differ.proofs.Hanging.{hung_first, apart_more, apart-fails, apart_fewer}
use Rattle.differ.proofs.all_differ.Goals as goal

pub loop-i-init : goal.loop-i-init
unfolding apart every
loop-i-init c = (hung_first _, refl)

pub returns-then-not-is_new : goal.returns-then-not-is_new
returns-then-not-is_new c = sym (apart-fails c.args.words.now _ _ (omega arith) (sym c.is_new.ensures.value ∙ c.if-not-is_new.true))

pub loop-i-preserved : goal.loop-i-preserved
loop-i-preserved c =
    let e = c.if-not-is_new.false in
    (c.is_new.ensures.hung_2 e, apart_more c.args.words.now _ c.loop-i.invariant.1 (sym c.is_new.ensures.value ∙ e))

pub returns : goal.returns
returns c = sym (apart_fewer c.args.words.now c.loop-i.i _ (omega arith) c.loop-i.invariant.1)
