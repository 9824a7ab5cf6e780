-- `catalogue::bytes::put_word` meets its contract.
use native.Mathlib.Omega.{arith}
use Rattle.std.proofs.Common.{rules}
use Rattle.catalogue.proofs.Puts.{put_bytes}
use Rattle.catalogue.proofs.bytes.put_word.Goals as goal

pub returns : goal.returns
returns c = put_bytes _ _ _ _ _ _ c.requires (omega arith) (search rules)
