pub mod Causes
pub mod Contents
pub mod Calls
pub mod Files
pub mod Store
pub mod Sink
pub mod Torn
pub mod Host
