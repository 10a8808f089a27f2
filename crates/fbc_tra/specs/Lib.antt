pub mod Begins
pub mod Commits
pub mod Goes
pub mod Numbers
pub mod Pages
pub mod Stages
pub mod Taken
pub mod Ways
