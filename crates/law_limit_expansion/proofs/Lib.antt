pub mod Records
pub mod Kept
pub mod Shapes
pub mod Standing
pub mod PlannedForm
pub mod Recorded
pub mod Limits
