pub mod TextBounds
pub mod FieldWords
