-- `Spreads` turns a test of every coordinate into the rule of the spread, `Codes` has the laws of codes and crow distances for callers, `Bits` says where the
-- bits of a code stand, `Fours` has powers of four by shifts and masks, and `Halving` the loop that finds a root.
pub mod Spreads
pub mod Codes
pub mod Fours
pub mod Bits
pub mod Halving
