mod HeaderWrites
mod Reading
mod Writes
