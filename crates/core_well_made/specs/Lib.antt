pub mod Parts
pub mod Reach
pub mod Sets
