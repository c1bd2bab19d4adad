pub mod Stands
pub mod Same
