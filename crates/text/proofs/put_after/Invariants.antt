-- `text::put_after` meets its contract. The invariant: the numbers so far are written.
use lib.ListN.{drop}
use Rattle.paper.specs.Printed.{after}
use Rattle.text.proofs.Put.{Going}
use Rattle.text.proofs.put_after.Given as goal

abbrev pub invariant-loop-word : goal.invariant-loop-word
invariant-loop-word l = Going l.at (after l.words) (after (drop l.word-index l.words)) l.initial.out l.out l.next
