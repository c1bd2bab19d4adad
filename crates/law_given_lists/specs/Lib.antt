pub mod Rows
pub mod RowCalls
pub mod Done
