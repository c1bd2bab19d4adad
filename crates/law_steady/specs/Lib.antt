pub mod Libraries
pub mod States
