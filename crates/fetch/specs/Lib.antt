pub mod Told
pub mod Names
