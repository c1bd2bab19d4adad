pub mod Places
pub mod Plan
pub mod Work
pub mod Planned
