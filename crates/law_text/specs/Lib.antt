pub mod Indices
pub mod Standing
pub mod Text
