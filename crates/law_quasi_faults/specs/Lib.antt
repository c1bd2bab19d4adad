pub mod Decided
pub mod Formed
