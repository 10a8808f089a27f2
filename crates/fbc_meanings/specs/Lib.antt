pub mod Beside
pub mod Reading
