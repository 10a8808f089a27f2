pub mod Pages
pub mod Places
pub mod Reading
pub mod Showing
pub mod Slots
pub mod Using
pub mod Versions
pub mod Waiting
