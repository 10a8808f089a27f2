mod DraftLaws
pub mod WorldSteps
pub mod WorldLaws
pub mod FirstOf
pub mod FrameLaws
pub mod WorldFrame
pub mod HoldingsFrame
pub mod Found
pub mod Requests
pub mod Apart
pub mod Granting
