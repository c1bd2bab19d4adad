pub mod Earlier
pub mod Keys
pub mod Scope
pub mod Pieces
