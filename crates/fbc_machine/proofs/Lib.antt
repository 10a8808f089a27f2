pub mod Rows
pub mod Scanning
