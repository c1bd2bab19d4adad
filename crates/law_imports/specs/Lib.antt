pub mod Algebra
pub mod Versions
pub mod Renames
