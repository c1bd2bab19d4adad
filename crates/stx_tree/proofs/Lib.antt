pub mod ContextLaws
pub mod TreeLaws
pub mod MeasureLaws
pub mod LeafLaws
pub mod RenamingLaws
pub mod MarkLaws
