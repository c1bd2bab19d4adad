pub mod Complete
pub mod Sound
pub mod RecordForms
mod Places
