pub mod Calls
pub mod InTurn
pub mod Codes
pub mod Given
pub mod Texts
