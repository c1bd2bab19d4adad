pub mod NameLemmas
pub mod Exports
