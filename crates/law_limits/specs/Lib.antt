pub mod Lawful
pub mod Holds
pub mod Stages
pub mod Limits
