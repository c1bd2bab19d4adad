pub mod Told
pub mod Identifiers
pub mod Bindings
pub mod Uses
pub mod Evaluations
