pub mod Labels
pub mod Meanings
pub mod Said
