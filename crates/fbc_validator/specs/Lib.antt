pub mod Damage
pub mod Damages
pub mod Marks
pub mod Lost
pub mod Checked
