pub mod Keywords
pub mod Compile
pub mod Values
pub mod Front
pub mod Columns
pub mod Matched
pub mod Rests
