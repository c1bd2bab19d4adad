pub mod Sound
pub mod Seals
pub mod Runs
pub mod Kept
pub mod Failing
pub mod Others
pub mod Due
pub mod Limits
