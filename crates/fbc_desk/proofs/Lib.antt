pub mod Goes
pub mod Unpinning
pub mod Editing
