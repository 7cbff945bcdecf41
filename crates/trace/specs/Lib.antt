pub mod Fields
pub mod Feeding
