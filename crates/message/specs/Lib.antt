pub mod Types
pub mod Reading
pub mod Limits
pub mod Part
pub mod Names
