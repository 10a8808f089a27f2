pub mod Uses
pub mod Inventory
pub mod Tips
