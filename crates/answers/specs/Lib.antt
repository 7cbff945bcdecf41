pub mod Answers
pub mod Adding
