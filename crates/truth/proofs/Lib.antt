-- `Area` is about the words of the table, `Scans` about looks through a slice, `Marking` about the blocks that are marked, `Finding` about the first
-- faulty pair, `Pairing` about a pair and a column of pairs, `ByChart` about a pair by its chart alone, `Progress` about the columns, `Surveyed` about the
-- road book, `Determined` about the contract.
pub mod Area
pub mod Scans
pub mod Marking
pub mod Finding
pub mod Pairing
pub mod ByChart
pub mod Progress
pub mod Surveyed
pub mod Filling
pub mod Determined
pub mod Over
pub mod Tabled
