pub mod Grammar
pub mod Laws
pub mod Records
pub mod Places
