pub mod Beside
pub mod Simulated
pub mod EditIn
pub mod Plain
pub mod Newest
pub mod Carried
pub mod Changes
