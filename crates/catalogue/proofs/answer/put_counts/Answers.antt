-- `catalogue::answer::put_counts` meets its contract.
use mathlib.Core.Path.{sym}
use Rattle.paper.proofs.Host.{counted_short}
use Rattle.catalogue.proofs.Puts.{put_both}
use Rattle.catalogue.proofs.answer.put_counts.Goals as goal

pub returns-then-bytes-lt-COUNTS_BYTES : goal.returns-then-bytes-lt-COUNTS_BYTES
returns-then-bytes-lt-COUNTS_BYTES c = sym (counted_short _ _ _ c.if-bytes-lt-COUNTS_BYTES.true)

pub returns : goal.returns
returns c = put_both _ _ _ _ _ c.if-bytes-lt-COUNTS_BYTES.false c.put_long.ensures c.put_long-2.ensures
