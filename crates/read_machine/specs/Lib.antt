pub mod Extent
pub mod Partial
pub mod Form
pub mod Step
