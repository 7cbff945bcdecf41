pub mod Turns
pub mod LedgersFollow
pub mod Guards
pub mod CountedRows
pub mod EitherOrder
pub mod Theorems
