pub mod Imports
pub mod Library
pub mod Chosen
pub mod Records
pub mod Loaded
pub mod Listed
pub mod Given
