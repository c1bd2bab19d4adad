pub mod States
pub mod Forms
pub mod Keeping
pub mod Records
