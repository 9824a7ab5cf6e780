-- `truth::slices::all_marked` meets its contract: `all` over the marks.
use mathlib.Core.Path.{◌∙◌}
use lib.Dec.{eqb}
use borrow.Author.Tests.{tests}
use Rattle.std.proofs.Common.{rules}
use Rattle.std.proofs.lemmas.Iterator.{YieldsList-from_slice}
use Rattle.std.proofs.lemmas.Iterator.Search.{all_from_yields_List}
use Rattle.truth.specs.Table.{used}
use Rattle.truth.proofs.Scans.{every_all}
use Rattle.truth.proofs.slices.all_marked.Goals as goal

pub returns : goal.returns
returns c = all_from_yields_List (λ b. eqb b used) _ _ _ c.all.ensures.ran (YieldsList-from_slice c.args.marks.now cc) (λ x b q k. search (rules, tests)) ∙ every_all _ _
