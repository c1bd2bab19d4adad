pub mod Invariant
pub mod Holds
pub mod Closed
pub mod Outcome
pub mod Stages
pub mod Steady
pub mod Laws
