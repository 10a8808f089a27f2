mod Ways
mod Runs
mod Tips
mod Ends
