pub mod Cutting
pub mod FieldsAsEvents
pub mod Limits
pub mod MessageFields
pub mod Theorems
