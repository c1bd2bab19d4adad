pub mod Matches
pub mod Renaming
