pub mod Layout
pub mod Allowed
pub mod Permitted
pub mod Inside
pub mod Typed
pub mod Same
