pub mod Sight
pub mod Same
pub mod Renamed
pub mod Columns
pub mod Alikes
pub mod Comes
pub mod Measuring
