pub mod Inventories
pub mod Marks
pub mod Snapshots
pub mod States
pub mod Using
