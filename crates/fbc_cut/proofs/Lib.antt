pub mod NoOne
pub mod AllChanges
