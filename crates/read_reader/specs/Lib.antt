pub mod Lexemes
pub mod Read
pub mod Grammar
pub mod Partial
pub mod Spells
pub mod FirstFault
