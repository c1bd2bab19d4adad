pub mod Behind
pub mod Gaps
pub mod Strings
pub mod Characters
pub mod Bare
pub mod Tokens
pub mod Start
pub mod Laws
