pub mod Rests
pub mod Spelled
pub mod Levels
pub mod Rising
pub mod Numbers
pub mod Spellings
