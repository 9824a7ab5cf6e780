-- `desk::serve::ask` meets its contract.
use mathlib.Core.Path.{◌≡◌, ap, subst}
use mathlib.Core.List.{List}
use Prim.Native.Nat.{ℕ, ◌*◌, ◌≤◌}
use native.Mathlib.Omega.{arith}
use Rattle.desk.proofs.Unfit.{fit, sheet_part}
use Rattle.paper.specs.Sizes.{line_words, asked_bytes, program_offices}
use Rattle.paper.specs.Reply.{reply}
use Rattle.paper.specs.Printed.{reply_text, program_reply, lent_answer, lent_working}
use Rattle.text.specs.Put.{Written, count_of}
use Rattle.nearest.specs.Question.{replied}
use Rattle.desk.proofs.Served.{program_is, program_count, mapped, count_same, written_as}
use lib.ListN.{length, length-replicate}
use Rattle.desk.proofs.serve.ask.Goals.{After-map_err, Start}
use Rattle.desk.proofs.serve.ask.Goals as goal

-- an input that passes the tests has q, k and the direction
long : (c : Start) → asked_bytes ≤ length c.args.input.now
long c = (fit _ c.requires.0).long

-- the question's reply is the program's
asked : (c : After-map_err) → replied c.question-reply.result c.question-reply.new.answer c.question-reply.new.working ≡ program_reply c.args.input.now
asked c =
    program_is c.args.input.now _ _ _ _ c.word-q.ensures c.word-k.ensures c.word-direction.ensures
    (subst (λ (l : List ℕ). replied c.question-reply.result c.question-reply.new.answer c.question-reply.new.working ≡ reply l c.word-q.result c.word-k.result c.word-direction.result lent_answer lent_working) (sheet_part c.args.input.now) c.question-reply.ensures.rules)

-- no more is listed than the answer slice and the output hold
most : (c : After-map_err) → count_of c.map_err.result ≤ program_offices
most c =
    let same = mapped c.question-reply.result c.map_err.result c.map_err.ensures.cases in
    rw (same, count_same c.question-reply.result c.question-reply.new.answer c.question-reply.new.working) (program_count c.args.input.now c.requires.0 _ (asked c))

pub word-q-requires : goal.word-q-requires
word-q-requires c = omega (arith, long (goal.at.word-q-requires c).Start)

pub word-k-requires : goal.word-k-requires
word-k-requires c = omega (arith, long (goal.at.word-k-requires c).Start)

pub word-direction-requires : goal.word-direction-requires
word-direction-requires c = omega (arith, long (goal.at.word-direction-requires c).Start)

pub slice_bounds-question-count : goal.slice_bounds-question-count
slice_bounds-question-count c = long (goal.at.slice_bounds-question-count c).Start

pub slice_bounds-question-start : goal.slice_bounds-question-start
slice_bounds-question-start c = long (goal.at.slice_bounds-question-start c).Start

pub put_reply-requires-clause-count_in_bounds : goal.put_reply-requires-clause-count_in_bounds
put_reply-requires-clause-count_in_bounds c = omega (arith, most (goal.at.put_reply-requires-clause-count_in_bounds c).After-map_err, c.requires.1)

pub put_reply-requires-clause-count_in_bounds_2 : goal.put_reply-requires-clause-count_in_bounds_2
put_reply-requires-clause-count_in_bounds_2 c = omega (arith, most (goal.at.put_reply-requires-clause-count_in_bounds_2 c).After-map_err, c.question-reply.auto.answer, length-replicate {A = ℕ} (line_words * program_offices) 0)

pub returns : goal.returns
returns c =
    let same = mapped c.question-reply.result c.map_err.result c.map_err.ensures.cases in
    subst (λ (t : List ℕ). Written 0 t c.args.output.now c.put_reply.new.out c.put_reply.result) (ap reply_text (asked (goal.at.returns c).After-map_err))
    (written_as c.question-reply.result c.question-reply.new.answer c.question-reply.new.working (rw same at c.put_reply.ensures.listed) (rw same at c.put_reply.ensures.refused))
