pub mod Found
pub mod Fed
