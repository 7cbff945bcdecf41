pub mod Histories
pub mod Limits
