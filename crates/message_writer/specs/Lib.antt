pub mod Writing
pub mod Sound
