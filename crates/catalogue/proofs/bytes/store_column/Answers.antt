-- `catalogue::bytes::store_column` meets its contract. The invariant is `StoringIn`: the first u words of the column are stored.
use Prim.Native.Nat.{◌+◌, ◌*◌, ◌≤◌, ◌<◌}
use native.Mathlib.Omega.{arith}
use mathlib.Core.Path.{refl, ◌∙◌}
use lib.ListN.{length}
use lib.Seq.{get_or-take, length-take-le}
use Rattle.paper.specs.Sizes.{word_bytes}
use Rattle.text.proofs.Put.{put_length}
use Rattle.truth.proofs.Area.{in_area}
use Rattle.catalogue.proofs.Columned.{storing_in_none, storing_in_more, storing_in_all}
use Rattle.catalogue.proofs.bytes.store_column.Goals.{In-loop-u}
use Rattle.catalogue.proofs.bytes.store_column.Goals as goal

-- the word of u and v is in the slice
room : (c : In-loop-u) → let l = c.loop-u in let a = c.args in
    (l.u < a.n) × (l.u * a.n + a.v < a.n * a.n) × (word_bytes * (l.u * a.n + a.v) + word_bytes ≤ length l.bytes)
room c =
    let more : c.loop-u.u < c.args.n = omega (arith, length-take-le _ _ c.requires.3, c.loop-u-test.true) in
    let inside = in_area c.args.n c.loop-u.u c.args.v more c.requires.0 in
    (more, inside, omega (arith, inside, c.loop-u.invariant.0, c.requires.2))

pub loop-u-init : goal.loop-u-init
loop-u-init c = (refl, λ words b p q e. storing_in_none _ _ _ words b _ e)

pub overflow_mul-u : goal.overflow_mul-u
overflow_mul-u c = omega (arith, room (goal.at.overflow_mul-u c).In-loop-u)

pub overflow_add-u : goal.overflow_add-u
overflow_add-u c = omega (arith, room (goal.at.overflow_add-u c).In-loop-u)

pub overflow_mul-u-in-loop-u : goal.overflow_mul-u-in-loop-u
overflow_mul-u-in-loop-u c = omega (arith, room (goal.at.overflow_mul-u-in-loop-u c).In-loop-u)

pub put_word-requires : goal.put_word-requires
put_word-requires c = (room (goal.at.put_word-requires c).In-loop-u).2

pub loop-u-preserved : goal.loop-u-preserved
loop-u-preserved c =
    let more = (room (goal.at.loop-u-preserved c).In-loop-u).0 in
    (put_length c.put_word.ensures ∙ c.loop-u.invariant.0, λ words base h k e. storing_in_more _ c.requires.0 more h (c.loop-u.invariant.1 words base h k e) (rw (get_or-take c.args.n c.args.column.now c.loop-u.u 0 more) at c.put_word.ensures))

pub returns : goal.returns
returns c words b p q e = storing_in_all (omega (arith, length-take-le _ _ c.requires.3, c.loop-u-test.false)) (c.loop-u.invariant.1 words b p q e)
