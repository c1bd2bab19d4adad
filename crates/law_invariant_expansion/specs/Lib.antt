pub mod Kept
pub mod States
pub mod Forms
pub mod Records
pub mod Laws
