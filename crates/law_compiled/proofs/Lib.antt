mod Joining
pub mod Templates
mod Compiled
