pub mod Cases
pub mod Tests
pub mod Telling
pub mod Octets
pub mod Places
pub mod Parts
pub mod Puts
pub mod PutLoop
pub mod Exits
mod BlankPlaces
mod Reaching
