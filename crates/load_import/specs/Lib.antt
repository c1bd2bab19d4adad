pub mod Table
pub mod Turns
pub mod Imported
pub mod Names
pub mod Shared
pub mod Sources
