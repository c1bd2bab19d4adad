pub mod Leaves
pub mod Names
pub mod Coming
pub mod Below
