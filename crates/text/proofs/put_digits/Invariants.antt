-- `text::put_digits` meets its contract. The invariant: the digits from p on are written, those of `rest` are left. The measure is p.
use mathlib.Core.Path.{◌≡◌}
use lib.ListN.{length}
use Rattle.text.proofs.Fill.{Filling}
use Rattle.text.proofs.put_digits.Given as goal

abbrev pub invariant-loop-p : goal.invariant-loop-p
invariant-loop-p l = Filling l.initial.out l.out l.at l.p l.n l.rest × (length l.out ≡ length l.initial.out)
