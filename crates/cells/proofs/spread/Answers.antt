-- `cells::spread` meets its contract: the checker computes the test of every coordinate, and `spread_is` turns it into the rule.
use mathlib.Core.Path.{refl}
use Rattle.paper.specs.Cell.{spread}
use Rattle.paper.specs.Test.{every}
use Rattle.cells.proofs.Spreads.{spread_is}
use Rattle.cells.proofs.spread.Goals as goal

pub returns : goal.returns
unfolding spread every
returns c =
    spread_is c.apart-eights.ensures c.apart-fours.ensures c.apart-twos.ensures c.apart.ensures
    c.requires refl
