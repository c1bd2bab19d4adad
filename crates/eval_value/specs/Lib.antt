pub mod Bind
pub mod BindCode
pub mod BindView
pub mod BindFalls
pub mod Cells
pub mod FromDatum
pub mod ToSyntax
pub mod Frames
