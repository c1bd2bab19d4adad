pub mod Equals
pub mod Older
pub mod Runs
pub mod Texts
pub mod Data
