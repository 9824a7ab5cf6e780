-- `Room` has what a caller of `word` needs, `Grounds` what a sheet with nothing due gives to the core; the others are the mathematics behind the tests.
pub mod Room
pub mod Counted
pub mod Pairs
pub mod Placed
pub mod Staged
pub mod Blocked
pub mod Passes
pub mod Booked
pub mod Grounds
