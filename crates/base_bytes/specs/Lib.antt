pub mod Codec
pub mod Laws
pub mod Names
pub mod NameLaws
pub mod Puts
