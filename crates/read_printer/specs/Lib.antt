pub mod Escapes
pub mod Characters
pub mod Strings
pub mod Symbols
pub mod DatumText
