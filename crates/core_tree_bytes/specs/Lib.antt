pub mod Contexts
pub mod Parts
pub mod Seen
