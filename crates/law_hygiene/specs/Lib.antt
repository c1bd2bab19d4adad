pub mod Marked
pub mod Binder
pub mod Parts
pub mod Hygiene
pub mod Known
pub mod History
pub mod Bound
pub mod Examples
