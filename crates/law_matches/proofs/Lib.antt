pub mod Atoms
pub mod Fronts
pub mod Complete
pub mod Sound
pub mod Renamed
