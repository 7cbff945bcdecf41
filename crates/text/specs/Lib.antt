pub mod Decimals
pub mod Words
pub mod Lines
