pub mod Pins
pub mod Showing
pub mod Ways
