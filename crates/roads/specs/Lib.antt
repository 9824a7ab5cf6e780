pub mod Chain
pub mod Towards
pub mod Search
