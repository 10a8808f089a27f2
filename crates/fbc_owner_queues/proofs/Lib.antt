mod Lists
pub mod Paths
mod Shut
mod Members
mod Outcomes
mod Through
mod Purged
mod Turned
mod Census
mod Raises
mod Settled
mod Ordered
pub mod Named
