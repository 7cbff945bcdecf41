pub mod InfoTold
pub mod CallEnds
pub mod Again
pub mod OneAnswer
