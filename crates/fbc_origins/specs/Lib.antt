pub mod Origins
pub mod Owed
pub mod Rows
pub mod Cuts
