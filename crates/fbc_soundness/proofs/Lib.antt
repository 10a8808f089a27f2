pub mod FirstOrigins
pub mod NoLinks
pub mod Ready
pub mod Kept
pub mod HeaderEdits
pub mod NextNumbers
pub mod PageEdits
