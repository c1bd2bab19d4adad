pub mod Expanded
pub mod Table
