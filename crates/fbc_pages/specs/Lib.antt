pub mod HeadBytes
pub mod Parts
