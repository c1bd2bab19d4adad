pub mod Rests
pub mod Sizes
pub mod Levels
pub mod Walks
pub mod Places
pub mod InsertLevels
pub mod InsertWalks
pub mod InsertRows
