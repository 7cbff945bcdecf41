pub mod Outcome
pub mod Entries
pub mod Fields
pub mod Value
pub mod Told
pub mod Rules
