pub mod NameTurns
pub mod Values
pub mod SpeltLemmas
