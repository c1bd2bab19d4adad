pub mod Alike
pub mod Walks
pub mod NameWords
pub mod Ends
pub mod Lines
pub mod Verdicts
