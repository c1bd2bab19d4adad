pub mod Keywords
pub mod Parts
pub mod WellMade
pub mod Showing
pub mod Answers
pub mod Codes
pub mod Running
