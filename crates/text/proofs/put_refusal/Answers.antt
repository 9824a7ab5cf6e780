-- `text::put_refusal` meets its contract.
use Prim.Native.Nat.{◌<◌}
use native.Mathlib.Omega.{arith}
use lib.ListN.{length}
use Rattle.paper.specs.Printed.{decimal}
use Rattle.text.specs.Put.{Written}
use Rattle.text.proofs.Put.{put_length, written_byte, written_then}
use Rattle.text.proofs.Lines.{refusal_parts, refusal_length}
use Rattle.text.proofs.put_refusal.Goals.{After-put_decimal-end}
use Rattle.text.proofs.put_refusal.Goals as goal

-- the number is written, and there is room for the line feed
digits : (c : After-put_decimal-end) → Written c.put_bytes-next.result (decimal c.args.number) c.put_bytes-next.new.out c.put_decimal-end.new.out c.put_decimal-end.result
digits c = rw c.from.ensures at c.put_decimal-end.ensures

room : (c : After-put_decimal-end) → c.put_decimal-end.result < length c.put_decimal-end.new.out
room c = omega (arith, refusal_length c.args.number, c.put_bytes-next.ensures.past, put_length c.put_bytes-next.ensures.put, (digits c).past, put_length (digits c).put)

pub put_bytes-next-requires : goal.put_bytes-next-requires
put_bytes-next-requires c = omega (arith, refusal_length c.args.number)

pub put_decimal-end-requires : goal.put_decimal-end-requires
put_decimal-end-requires c = rw c.from.ensures (omega (arith, refusal_length c.args.number, c.put_bytes-next.ensures.past, put_length c.put_bytes-next.ensures.put))

pub bounds-out-end : goal.bounds-out-end
bounds-out-end c = room (goal.at.bounds-out-end c).After-put_decimal-end

pub returns : goal.returns
returns c =
    let here = (goal.at.returns c).After-put_decimal-end in
    rw (refusal_parts c.args.number) (written_then c.put_bytes-next.ensures (written_then (digits here) (written_byte _ 10 _ (room here))))
