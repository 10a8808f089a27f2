pub mod Outlines
pub mod Sketches
