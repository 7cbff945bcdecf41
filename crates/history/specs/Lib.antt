pub mod Events
pub mod Orders
pub mod Deeds
pub mod Rows
pub mod Closings
pub mod Ledgers
pub mod Takings
pub mod Runs
