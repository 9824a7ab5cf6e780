-- `text::put_reply` meets its contract.
use Prim.Native.Nat.{◌≤◌}
use mathlib.Core.Path.{refl}
use native.Mathlib.Omega.{arith}
use lib.ListN.{length}
use Rattle.text.specs.Room.{reply_room}
use Rattle.text.proofs.Put.{put_length, written_then}
use Rattle.text.proofs.Short.{counts_short, list_short, refusal_short}
use Rattle.text.proofs.Reply.{reply-listed}
use Rattle.text.proofs.put_reply.Goals.{In-Ok}
use Rattle.text.proofs.put_reply.Goals as goal

-- there is room for the lines of the offices listed
room : (c : In-Ok) → reply_room c.in-Ok.listed.count ≤ length c.args.out.now
room c = rw c.in-Ok.is at c.requires.count_in_bounds

pub put_refusal-requires : goal.put_refusal-requires
put_refusal-requires c = omega (arith, rw c.in-Err.is at c.requires.count_in_bounds, refusal_short c.in-Err.number (omega arith))

pub put_numbers-next-requires-clause-words_in_bounds : goal.put_numbers-next-requires-clause-words_in_bounds
put_numbers-next-requires-clause-words_in_bounds c = omega (arith, room (goal.at.put_numbers-next-requires-clause-words_in_bounds c).In-Ok, counts_short c.from.result c.in-Ok.listed.refinements (omega arith) (omega arith))

pub put_list-requires-clause-answer_in_bounds : goal.put_list-requires-clause-answer_in_bounds
put_list-requires-clause-answer_in_bounds c =
    omega (
      arith,
      room (goal.at.put_list-requires-clause-answer_in_bounds c).In-Ok,
      list_short c.in-Ok.listed.count c.args.answer.now (λ i. omega (arith, c.type_inv.answer i)),
      counts_short c.from.result c.in-Ok.listed.refinements (omega arith) (omega arith),
      c.put_numbers-next.ensures.past,
      put_length c.put_numbers-next.ensures.put,
    )

pub returns-in-Ok-clause-listed : goal.returns-in-Ok-clause-listed
returns-in-Ok-clause-listed c =
    rw c.in-Ok.is (λ working. rw (reply-listed 0 c.in-Ok.listed.count c.in-Ok.listed.refinements c.args.answer.now working refl)
    (written_then (rw c.from.ensures at c.put_numbers-next.ensures) c.put_list.ensures))

pub returns-in-Err-clause-refused : goal.returns-in-Err-clause-refused
returns-in-Err-clause-refused c = rw c.in-Err.is c.put_refusal.ensures
