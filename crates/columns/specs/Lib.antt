pub mod Pouring
pub mod Columns
