pub mod Halting
pub mod Found
pub mod Search
pub mod Load
pub mod Stack
pub mod Gives
