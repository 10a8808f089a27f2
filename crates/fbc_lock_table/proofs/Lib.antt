pub mod Finds
pub mod Fate
mod InPlace
pub mod Pairs
pub mod Ways
pub mod Lawful
mod Waiters
