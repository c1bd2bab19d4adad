pub mod CoreForms
pub mod Prelude
pub mod Derived
pub mod Kept
pub mod Limits
