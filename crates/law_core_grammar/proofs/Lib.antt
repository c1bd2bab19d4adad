mod Plain
pub mod Called
mod Texts
mod Spellings
mod Codes
mod Readable
pub mod Whole
pub mod Bound
mod Examples
mod Given
