pub mod Source
pub mod Whitespace
pub mod Numbers
pub mod Escapes
pub mod Identifiers
