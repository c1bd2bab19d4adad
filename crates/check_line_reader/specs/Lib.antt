pub mod Words
pub mod Progress
