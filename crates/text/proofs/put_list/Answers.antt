-- `text::put_list` meets its contract: line i is the words from 5i on.
use mathlib.Core.Path.{◌≡◌, refl}
use Prim.Native.Nat.{ℕ, ◌+◌, ◌*◌, ◌-◌}
use native.Mathlib.Omega.{arith}
use Rattle.paper.specs.Sizes.{line_words}
use Rattle.text.proofs.Put.{going_long}
use Rattle.text.proofs.Lines.{list_begun, list-fits, list-more, list_done}
use Rattle.text.proofs.put_list.Goals as goal

pub loop-i-init : goal.loop-i-init
loop-i-init c = (list_begun c.args.answer.now c.args.k refl c.requires.answer_in_bounds, omega arith, refl)

-- the part that is lent from word `first` on has five words
five : (first : ℕ) → first + line_words - first ≡ line_words
five first = omega arith

pub put_numbers-next-requires-clause-words_in_bounds :
    goal.put_numbers-next-requires-clause-words_in_bounds
put_numbers-next-requires-clause-words_in_bounds c =
    rw (five _) (list-fits c.args.answer.now c.loop-i.invariant.0 c.requires.answer_in_bounds c.loop-i-test.true)

pub loop-i-preserved : goal.loop-i-preserved
loop-i-preserved c =
    let g = list-more c.args.answer.now c.loop-i.invariant.0 c.loop-i-test.true (rw (five _) at c.put_numbers-next.ensures) in
    (g, omega arith, going_long g)

pub returns : goal.returns
returns c = list_done c.args.answer.now c.loop-i.invariant.0 c.loop-i-test.false
