pub mod Calls
pub mod Desk
pub mod Grounds
pub mod Holds
pub mod Noting
pub mod Roles
pub mod Taking
pub mod Waits
