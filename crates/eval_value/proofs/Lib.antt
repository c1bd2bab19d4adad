pub mod Readings
pub mod Stacks
pub mod Stored
pub mod Wholes
