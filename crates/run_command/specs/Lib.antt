pub mod Command
pub mod Given
pub mod Roots
pub mod Number
pub mod Words
