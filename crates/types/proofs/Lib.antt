pub mod Gaps
pub mod TypedAs
pub mod KindRows
pub mod OneAnswer
