pub mod Attachment
pub mod Behind
pub mod Passing
pub mod Refusals
pub mod Running
pub mod StepNames
