pub mod Ready
pub mod Renaming
pub mod Repeating
pub mod Measuring
