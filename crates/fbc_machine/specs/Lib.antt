pub mod Scanned
pub mod Shown
