pub mod RecordTypes
