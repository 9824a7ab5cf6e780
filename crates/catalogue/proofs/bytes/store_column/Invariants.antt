-- `catalogue::bytes::store_column` meets its contract. The invariant is `StoringIn`: the first u words of the column are stored.
use Prim.Native.Nat.{ℕ, ◌*◌, ◌≤◌}
use mathlib.Core.Path.{◌≡◌}
use mathlib.Core.List.{List}
use lib.ListN.{length}
use Rattle.paper.specs.Sizes.{word_bytes}
use Rattle.paper.specs.Words.{written}
use Rattle.catalogue.proofs.Columned.{StoringIn}
use Rattle.catalogue.proofs.bytes.store_column.Given as goal

abbrev pub invariant-loop-u : goal.invariant-loop-u
invariant-loop-u l = (length l.bytes ≡ length l.initial.bytes)
    × ((words b : List ℕ) → l.n * l.n ≤ length words → word_bytes * length words ≤ length b → l.initial.bytes ≡ written word_bytes words b → StoringIn l.n l.v l.u l.column words b l.bytes)
