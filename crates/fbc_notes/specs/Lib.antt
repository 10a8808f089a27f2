pub mod DeadNumbers
pub mod HeaderTests
pub mod Notes
pub mod RowNames
pub mod Sights
