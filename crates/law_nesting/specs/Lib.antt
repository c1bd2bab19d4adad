pub mod Heights
pub mod Nesting
pub mod Texts
