pub mod Variable
pub mod Numbers
pub mod Apart
