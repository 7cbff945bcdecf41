pub mod Cursors
pub mod Expecting
pub mod Advancing
pub mod Telling
