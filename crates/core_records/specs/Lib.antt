pub mod Introduced
pub mod Names
pub mod Clauses
pub mod Definitions
pub mod Forms
pub mod Frame
pub mod Binders
