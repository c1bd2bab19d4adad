pub mod Known
pub mod Needed
