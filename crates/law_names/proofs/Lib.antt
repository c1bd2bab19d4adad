pub mod Words
pub mod Telling
pub mod Reading
pub mod AnyName
