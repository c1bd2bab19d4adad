pub mod Chars
pub mod Places
pub mod Loops
pub mod Parts
pub mod HasherLemmas
pub mod Heads
pub mod ElementLemmas
