pub mod Pages
pub mod Precedence
pub mod Room
pub mod Search
