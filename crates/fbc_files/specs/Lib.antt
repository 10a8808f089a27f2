pub mod Creating
pub mod NewPages
pub mod Opening
pub mod Pages
pub mod RelationTests
pub mod Roles
pub mod Shapes
