pub mod Choice
pub mod Answer
pub mod Octets
pub mod Buffer
pub mod Lists
