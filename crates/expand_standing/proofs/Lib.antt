pub mod Noted
pub mod Rows
pub mod Adopted
pub mod Keywords
pub mod Starts
pub mod Staged
pub mod Outside
