pub mod All
pub mod Words
pub mod Version
pub mod Name
pub mod Set
pub mod Export
pub mod Form
