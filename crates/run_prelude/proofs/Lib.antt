pub mod Names
pub mod Ended
pub mod SpentLemmas
