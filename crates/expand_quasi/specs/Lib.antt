pub mod Parts
pub mod Filled
pub mod Inserted
pub mod Form
