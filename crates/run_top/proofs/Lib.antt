pub mod Sinks
pub mod ToldLemmas
pub mod CachedLemmas
pub mod WordsLemmas
pub mod FuelLemmas
