-- `truth::columns::is_reached` meets its contract: what the look through the column shows of the roads.
use mathlib.Core.Path.{◌≡◌, ◌∙◌}
use lib.Dec.{eqb}
use lib.ListN.{take}
use Prim.Native.Nat.{ℕ}
use native.Mathlib.Omega.{arith}
use Rattle.std.specs.List.{list_any}
use Rattle.roads.specs.Towards.{far}
use Rattle.truth.proofs.Scans.{any_taken, reached}
use Rattle.truth.proofs.columns.is_reached.Goals as goal

pub returns : goal.returns
returns c m R =
    let any : c.contains.result ≡ list_any (λ (x : ℕ). eqb x far) (take c.args.roads.now.places c.towards.new.column) = c.contains.ensures.value in
    reached _ _ _ _ (c.towards.ensures.towards m R.lists R.starts R.goes) _ (any ∙ any_taken _ _ _ (omega (arith, c.towards.auto.column, c.requires.1)))
