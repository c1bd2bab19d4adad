pub mod Readable
pub mod Outcome
pub mod Laws
pub mod Stages
