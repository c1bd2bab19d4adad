pub mod Binding
pub mod FileLemmas
pub mod Order
pub mod Placed
pub mod Ranking
pub mod Relation
