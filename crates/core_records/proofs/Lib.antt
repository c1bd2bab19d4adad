pub mod Binds
pub mod Opened
pub mod Places
pub mod Walks
