pub mod Lowering
pub mod Written
pub mod Fewer
pub mod Ended
mod AfterLowering
mod Further
mod Causing
mod Kept
