-- What a step down the tree tells, and what hanging a word into it keeps.
pub mod Hanging
