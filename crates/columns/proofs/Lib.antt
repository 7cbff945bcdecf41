pub mod Poured
pub mod Turns
pub mod HexDigits
pub mod ItemAlone
pub mod ColumnPoured
