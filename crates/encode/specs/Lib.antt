pub mod Entries
pub mod Framing
pub mod Writing
