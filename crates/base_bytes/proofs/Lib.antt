pub mod Known
pub mod Loop
pub mod Utf8
