pub mod Telling
pub mod Printing
