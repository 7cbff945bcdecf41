pub mod Judging
pub mod Measuring
pub mod Fields
pub mod Small
