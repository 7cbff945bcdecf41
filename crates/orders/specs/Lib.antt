pub mod Events
pub mod Steps
pub mod Apart
