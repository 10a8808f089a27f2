pub mod Reading
pub mod Roles
pub mod Walk
pub mod Content
pub mod Tally
