pub mod MarkLemmas
pub mod PlaceLemmas
pub mod WorkLemmas
pub mod PlanLemmas
