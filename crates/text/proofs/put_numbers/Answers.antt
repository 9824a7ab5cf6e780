-- `text::put_numbers` meets its contract.
use native.Mathlib.Omega.{arith}
use Rattle.text.proofs.Put.{put_length, written_then}
use Rattle.text.proofs.Lines.{line_parts, line-length}
use Rattle.text.proofs.put_numbers.Goals as goal

pub put_decimal-next-requires : goal.put_decimal-next-requires
put_decimal-next-requires c = omega (arith, line-length c.args.words.now c.requires.some)

pub put_after-requires : goal.put_after-requires
put_after-requires c = omega (arith, line-length c.args.words.now c.requires.some, c.put_decimal-next.ensures.past, put_length c.put_decimal-next.ensures.put)

pub returns : goal.returns
returns c = rw (line_parts c.args.words.now c.requires.some) (written_then c.put_decimal-next.ensures c.put_after.ensures)
