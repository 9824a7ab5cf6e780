-- `text::put_after` meets its contract. The invariant: the numbers so far are written.
use Rattle.text.proofs.Put.{going_start}
use Rattle.text.proofs.Lines.{after-fits, after_more, after-room, after-done}
use Rattle.text.proofs.put_after.Goals as goal

pub loop-word-init : goal.loop-word-init
loop-word-init c = going_start _ _ _ c.requires

pub put_next-next-requires : goal.put_next-next-requires
put_next-next-requires c = after-fits c.args.words.now c.loop-word.invariant c.requires c.loop-word-test.true

pub loop-word-preserved : goal.loop-word-preserved
loop-word-preserved c = after_more c.args.words.now c.loop-word.invariant c.loop-word-test.true c.put_next-next.ensures

pub bounds-out-next : goal.bounds-out-next
bounds-out-next c = after-room c.args.words.now c.loop-word.invariant c.requires c.loop-word-test.false

pub returns : goal.returns
returns c = after-done c.args.words.now c.loop-word.invariant c.requires c.loop-word-test.false
