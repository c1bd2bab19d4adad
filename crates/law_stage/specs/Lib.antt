pub mod Grows
pub mod Uses
pub mod Reached
