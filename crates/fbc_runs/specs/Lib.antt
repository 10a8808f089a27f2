pub mod Ended
pub mod Orderly
pub mod Reading
pub mod Runs
pub mod Changes
