pub mod Heads
pub mod Levels
pub mod KeptLaws
