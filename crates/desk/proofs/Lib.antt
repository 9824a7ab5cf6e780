pub mod Unfit
pub mod Served
