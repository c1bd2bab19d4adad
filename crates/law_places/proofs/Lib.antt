pub mod Endings
pub mod Scans
pub mod Shapes
pub mod Counts
