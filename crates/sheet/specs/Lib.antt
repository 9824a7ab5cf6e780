pub mod Laid
pub mod Records
pub mod Book
pub mod Ground
pub mod Charts
