pub mod Parts
pub mod EqualLemmas
pub mod SameLemmas
pub mod RunLemmas
pub mod TemporaryLemmas
pub mod TextLemmas
pub mod DataLemmas
