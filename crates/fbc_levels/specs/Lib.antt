pub mod Levels
pub mod Names
pub mod Resources
pub mod Owners
pub mod LockState
pub mod Waits
