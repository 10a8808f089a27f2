pub mod Grants
pub mod Living
pub mod Search
pub mod Circles
pub mod Turns
