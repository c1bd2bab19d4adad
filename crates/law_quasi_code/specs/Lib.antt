pub mod Keywords
pub mod Shows
pub mod Wants
pub mod Values
