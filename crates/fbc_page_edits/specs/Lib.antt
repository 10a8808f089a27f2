pub mod Edited
pub mod Facing
pub mod Alike
pub mod Allowed
pub mod Kept
