pub mod Readable
pub mod ReadBack
pub mod Lines
