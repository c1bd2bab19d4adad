pub mod TableLemmas
pub mod TurnLemmas
pub mod ImportedLemmas
pub mod NameLemmas
pub mod SharedLemmas
pub mod FoundLemmas
pub mod SourceLemmas
