pub mod Binders
pub mod Links
pub mod Map
pub mod Marks
pub mod Ranked
pub mod Relation
pub mod Rows
pub mod Text
