pub mod Laws
pub mod Sources
pub mod Chains
pub mod Roots
pub mod Files
pub mod Orders
