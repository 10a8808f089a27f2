pub mod Ending
pub mod Histories
pub mod Serving
