pub mod Events
pub mod Progressing
pub mod Gathering
pub mod Advancing
