pub mod Trees
pub mod Steady
pub mod Variables
pub mod Matches
pub mod Codes
pub mod Stages
pub mod Limits
