pub mod Runs
pub mod MoreFuel
pub mod Kept
