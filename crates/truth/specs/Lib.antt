pub mod Table
pub mod Faults
pub mod Pairs
pub mod Roads
pub mod Columns
