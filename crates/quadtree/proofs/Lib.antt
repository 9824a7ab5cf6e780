-- `Words` says where the words of a ground stand, `Search` how the block of a code is found, `Steps` what intervals and trails come to, `Sizes` how large
-- their numbers grow, `Charts` which stage a block names by the book.
pub mod Words
pub mod Search
pub mod Steps
pub mod Sizes
pub mod Charts
