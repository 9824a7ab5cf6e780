pub mod Working
pub mod Going
pub mod Question
pub mod Errands
