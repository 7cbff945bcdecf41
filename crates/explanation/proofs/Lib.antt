pub mod FieldValues
pub mod DueLines
pub mod PrintedParts
pub mod ReadersAnswers
pub mod LongestLines
pub mod Theorems
