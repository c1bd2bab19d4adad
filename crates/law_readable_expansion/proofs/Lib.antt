pub mod Shapes
pub mod Records
pub mod Kept
pub mod Standing
pub mod PlannedForm
pub mod Recorded
pub mod Around
