pub mod Entry
pub mod EntryLaws
pub mod Fits
pub mod FitsLaws
pub mod Fitting
pub mod Place
pub mod Seal
