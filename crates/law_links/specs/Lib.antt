pub mod Links
pub mod Whole
