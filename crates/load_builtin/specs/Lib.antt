pub mod Libraries
pub mod Exports
pub mod Prelude
