pub mod Reads
pub mod Fails
