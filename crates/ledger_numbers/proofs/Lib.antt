pub mod Storing
pub mod FromFn
pub mod RowsNamed
pub mod Comparing
pub mod Again
pub mod Theorems
