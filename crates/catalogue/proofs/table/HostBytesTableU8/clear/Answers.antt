-- `HostBytes::clear` meets the contract of `Table`: the first bytes become 0, and so the first words.
use mathlib.Core.Path.{sym, ap, ◌∙◌}
use Prim.Native.Nat.{◌*◌}
use lib.Seq.{length-take-le}
use native.Mathlib.Omega.{arith}
use Rattle.paper.specs.Sizes.{word_bytes}
use Rattle.paper.specs.Slice.{cleared}
use Rattle.paper.proofs.Words.{cleared-written}
use Rattle.paper.proofs.Cleared.{filled}
use Rattle.catalogue.proofs.Tabled.{held}
use Rattle.catalogue.proofs.table.HostBytesTableU8.clear.Goals as goal

pub overflow_mul-n : goal.overflow_mul-n
overflow_mul-n c = omega (arith, c.requires, held c.args.slice.now)

pub slice_bounds-fill-end : goal.slice_bounds-fill-end
slice_bounds-fill-end c = omega (arith, c.requires, held c.args.slice.now)

pub slice_bounds-fill-end-2 : goal.slice_bounds-fill-end-2
slice_bounds-fill-end-2 c = sym (length-take-le _ _ (omega (arith, c.requires, held c.args.slice.now)))

pub returns : goal.returns
returns c words b long size e =
    filled _ _ _ (omega (arith, c.requires, held c.args.slice.now)) (c.fill.ensures.after (λ y q. q)) ∙ ap (cleared (word_bytes * c.args.n)) e ∙ cleared-written word_bytes c.args.n words b long
