pub mod Words
pub mod Patterns
