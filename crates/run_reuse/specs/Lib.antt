pub mod Groups
pub mod Entries
pub mod Progress
pub mod Expansion
pub mod Turns
pub mod Texts
pub mod Fuel
