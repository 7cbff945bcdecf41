pub mod Decimals
pub mod Ended
pub mod ItemsInLine
pub mod Counted
pub mod Bounds
pub mod Outcomes
