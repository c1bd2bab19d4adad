pub mod Makes
pub mod Filled
pub mod Quiet
pub mod Numbered
