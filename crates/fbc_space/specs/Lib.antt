pub mod Finding
pub mod FreePages
pub mod FreeSteps
pub mod Needs
pub mod Passed
pub mod Steps
pub mod TakingPages
