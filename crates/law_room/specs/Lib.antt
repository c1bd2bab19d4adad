pub mod Room
pub mod Limit
pub mod Counted
