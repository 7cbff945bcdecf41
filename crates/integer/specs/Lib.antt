pub mod Bytes
pub mod Edition
pub mod Integer
