-- `sheet::offices::offices_hold` meets its contract: `all` over the list's records.
use Prim.Native.Nat.{◌<◌, ◌≤◌}
use mathlib.Core.Path.{refl}
use native.Mathlib.Omega.{arith}
use borrow.Author.Tests.{tests}
use Rattle.std.proofs.Common.{rules}
use Rattle.std.proofs.lemmas.Iterator.{cases_from_all, YieldsList-from_range}
use Rattle.paper.specs.Sheet.{word}
use Rattle.sheet.proofs.Passes.{offices_by}
use Rattle.sheet.proofs.offices.offices_hold.Goals as goal

pub returns : goal.returns
returns c m e =
    let a = c.args in
    offices_by m a.list.now _ _ e
    (cases_from_all _ _ _ (λ i. word a.list.now i < a.places) (λ i. a.places ≤ word a.list.now i) c.all.ensures.ran (YieldsList-from_range 0 _ _ refl (omega arith)) (λ x q k. search (rules, tests)) (λ x q k. search (rules, tests)))
