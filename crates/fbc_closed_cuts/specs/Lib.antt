pub mod Cut
pub mod Views
pub mod Growth
pub mod Upheld
pub mod Owed
pub mod Firm
pub mod Edited
