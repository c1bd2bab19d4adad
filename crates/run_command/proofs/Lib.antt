pub mod Lists
pub mod Taken
