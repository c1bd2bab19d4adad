pub mod Matching
pub mod Instances
