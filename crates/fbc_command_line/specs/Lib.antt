pub mod Commands
pub mod NewFile
pub mod OptionReading
pub mod Options
