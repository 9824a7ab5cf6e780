-- `HostBytes::store_column` meets the contract of `Table`.
use native.Mathlib.Omega.{arith}
use Rattle.catalogue.proofs.Tabled.{held}
use Rattle.catalogue.proofs.table.HostBytesTableU8.store_column.Goals as goal

pub store_column-requires : goal.store_column-requires
store_column-requires c = (c.requires.0, c.requires.1, omega (arith, c.requires.2, held c.args.slice.now), c.requires.3)

pub returns : goal.returns
returns c words b long size e = c.store_column.ensures words b long (omega (arith, size, held b)) e
