pub mod Rules
pub mod Layouts
pub mod Faults
pub mod Told
pub mod Reading
pub mod Arrivals
pub mod Steady
