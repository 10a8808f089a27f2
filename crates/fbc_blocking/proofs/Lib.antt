mod Called
mod Wanted
mod Idle
