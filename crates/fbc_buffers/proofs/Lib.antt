pub mod Found
pub mod Apart
pub mod Victim
mod InPlace
