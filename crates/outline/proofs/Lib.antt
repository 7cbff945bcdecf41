pub mod OneByOne
pub mod Givable
pub mod Joins
pub mod Statuses
pub mod Listed
