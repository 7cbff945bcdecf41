pub mod Ledgers
pub mod Answers
pub mod Senders
pub mod Keys
pub mod Views
pub mod Steps
pub mod Arrays
pub mod Runs
