-- `HostBytes::room` meets the contract of `Table`.
use mathlib.Core.Path.{sym}
use Rattle.catalogue.proofs.Tabled.{held, unwritten}
use Rattle.catalogue.proofs.table.HostBytesTableU8.room.Goals as goal

pub returns : goal.returns
returns c = record { room = sym (held _); whole = unwritten _ (λ i p. (c.type_inv.slice i).fits) }
