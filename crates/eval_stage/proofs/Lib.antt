pub mod Records
pub mod OnParts
pub mod Gathering
pub mod Ruling
