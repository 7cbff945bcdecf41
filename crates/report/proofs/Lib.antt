pub mod LinePut
pub mod RowLines
pub mod LinesJoined
pub mod ReplayShown
pub mod Longest
