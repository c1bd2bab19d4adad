pub mod Bodies
pub mod Linked
pub mod Settling
pub mod Steps
pub mod Taking
