pub mod Lists
mod Reach
pub mod Sets
pub mod Sizes
mod Opened
mod Distinct
pub mod Noted
mod Formed
