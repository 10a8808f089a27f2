pub mod Whole
pub mod Seen
