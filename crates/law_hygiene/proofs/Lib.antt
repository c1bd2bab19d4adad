pub mod Marking
pub mod Rowing
pub mod Using
mod Knowing
pub mod Living
mod Adding
