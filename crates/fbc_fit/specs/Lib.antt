pub mod Fit
pub mod After
pub mod Answered
pub mod KnownLocks
