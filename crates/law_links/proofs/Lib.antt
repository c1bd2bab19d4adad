pub mod Grown
pub mod Standing
pub mod Planning
pub mod Settling
pub mod Items
pub mod Walking
pub mod Wholly
