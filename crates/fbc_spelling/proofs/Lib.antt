mod ByteLists
mod DataRead
pub mod Decoded
mod HeadRead
mod HeaderRead
mod InventoryRead
pub mod KindBytes
mod NumberTests
mod PointerRead
pub mod Shows
mod SmallBytes
mod TipRead
pub mod Within
