pub mod Kinds
pub mod Behind
pub mod Steady
pub mod Uses
