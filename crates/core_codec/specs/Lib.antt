pub mod Contexts
pub mod ContextLaws
pub mod Trees
pub mod TreeLaws
pub mod Code
pub mod CodeLaws
pub mod Records
pub mod RecordLaws
