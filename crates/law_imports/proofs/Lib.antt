pub mod AlgebraLemmas
pub mod VersionLemmas
pub mod RenameLemmas
