pub mod Links
pub mod Versions
pub mod Chains
pub mod Following
pub mod Namers
