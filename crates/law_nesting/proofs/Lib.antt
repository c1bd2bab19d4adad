pub mod Heights
pub mod Bodies
pub mod Items
pub mod Quasi
pub mod Forms
pub mod Records
pub mod Texts
