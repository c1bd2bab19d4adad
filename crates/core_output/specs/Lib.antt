pub mod CoreText
pub mod Naming
pub mod Syntax
pub mod Whole
