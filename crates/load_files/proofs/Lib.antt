pub mod HaltLemmas
pub mod MarkLemmas
pub mod SearchLemmas
pub mod WalkLemmas
