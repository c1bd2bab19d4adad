pub mod Layout
pub mod OrderLaws
