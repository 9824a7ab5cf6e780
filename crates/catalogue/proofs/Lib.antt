-- `Puts` is about words that are written into bytes, `Columned` about a column of the check's table, `Tabled` about the table while it is filled,
-- `Lined` about the list of a walk, `Replied` about the reply, `Determined` about the contracts.
pub mod Puts
pub mod Columned
pub mod Tabled
pub mod Lined
pub mod Replied
pub mod Determined
