pub mod Standing
pub mod Items
pub mod Settling
pub mod Walking
pub mod Wholly
