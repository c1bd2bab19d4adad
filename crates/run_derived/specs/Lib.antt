pub mod Names
pub mod Derived
