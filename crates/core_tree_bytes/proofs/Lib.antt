pub mod Level
pub mod Shapes
