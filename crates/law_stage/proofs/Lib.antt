pub mod Growing
pub mod Calling
pub mod Sweeping
