pub mod Words
pub mod Refers
pub mod Mentions
pub mod Names
pub mod Planned
pub mod Closed
pub mod BoundOnce
pub mod Text
