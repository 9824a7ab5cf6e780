-- `catalogue::bytes::put_longs` meets its contract. The invariant: the first i words are written.
use mathlib.Core.Path.{◌≡◌}
use lib.ListN.{take}
use Rattle.paper.specs.Sizes.{long_bytes}
use Rattle.paper.specs.Words.{written}
use Rattle.catalogue.proofs.bytes.put_longs.Given as goal

abbrev pub invariant-loop-i : goal.invariant-loop-i
invariant-loop-i l = l.bytes ≡ written long_bytes (take l.i l.words) l.initial.bytes
