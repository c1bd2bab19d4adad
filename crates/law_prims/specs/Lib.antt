pub mod Holds
pub mod ByName
