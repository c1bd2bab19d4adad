pub mod Levels
pub mod Fronts
pub mod Sizes
pub mod Chains
pub mod Walks
pub mod RestLemmas
