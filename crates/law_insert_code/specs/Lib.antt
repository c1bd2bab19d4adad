pub mod Inserted
pub mod Code
