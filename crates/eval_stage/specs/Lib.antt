pub mod Fuel
pub mod Libraries
pub mod Stage
pub mod Running
pub mod Transformers
pub mod Uses
pub mod Patterns
pub mod Told
