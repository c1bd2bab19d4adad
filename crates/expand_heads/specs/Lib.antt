pub mod Kept
pub mod Plan
pub mod Items
pub mod KeptLaws
pub mod Depth
