pub mod Parts
pub mod NeededLemmas
