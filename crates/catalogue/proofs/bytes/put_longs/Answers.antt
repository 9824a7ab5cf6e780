-- `catalogue::bytes::put_longs` meets its contract.
use mathlib.Core.Path.{sym}
use Rattle.paper.specs.Sizes.{long_bytes}
use Rattle.paper.proofs.Words.{written_none}
use Rattle.catalogue.proofs.Puts.{written_more}
use Rattle.catalogue.proofs.bytes.put_longs.Goals as goal

pub loop-i-init : goal.loop-i-init
loop-i-init c = sym (written_none long_bytes _)

pub loop-i-preserved : goal.loop-i-preserved
loop-i-preserved c = written_more long_bytes _ _ _ _ _ c.loop-i-test.true c.loop-i.invariant c.put_long.ensures
