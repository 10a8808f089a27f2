pub mod Turns
pub mod Plans
