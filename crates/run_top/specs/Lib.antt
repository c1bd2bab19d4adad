pub mod Statuses
pub mod Words
pub mod Whole
pub mod Cached
pub mod Headline
pub mod Fuel
pub mod Prepared
