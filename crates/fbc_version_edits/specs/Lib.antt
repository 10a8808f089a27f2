pub mod Forms
pub mod Differences
pub mod Open
pub mod Puts
pub mod Kept
