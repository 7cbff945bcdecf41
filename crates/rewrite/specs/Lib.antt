pub mod Rewriting
pub mod Ends
