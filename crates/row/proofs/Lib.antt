pub mod Facts
pub mod Keeping
pub mod OneAnswer
pub mod Ordering
