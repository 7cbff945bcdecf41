pub mod FieldsTaken
pub mod FaultLines
pub mod LongestEnd
