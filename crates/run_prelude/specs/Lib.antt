pub mod Prelude
pub mod Spent
