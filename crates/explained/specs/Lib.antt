pub mod Grammar
pub mod Explaining
pub mod Tiling
pub mod Gathering
