pub mod NameLemmas
pub mod ImportLemmas
pub mod SymbolLemmas
pub mod UserLemmas
pub mod PlaceLemmas
pub mod MadeLemmas
pub mod BehindLemmas
pub mod RunLemmas
pub mod ClosedLemmas
pub mod Steps
pub mod Rows
pub mod Binding
pub mod Settling
pub mod Forms
pub mod Tops
pub mod Labels
pub mod Starts
pub mod Derived
pub mod Runs
pub mod DerivedLines
pub mod Keywords
pub mod Lists
pub mod NameText
pub mod Plain
pub mod Table
pub mod Written
pub mod SpelledLines
pub mod SpelledRuns
pub mod ReadableData
pub mod ReadableGiven
pub mod ReadableRuns
pub mod WiderLemmas
pub mod ExportLemmas
pub mod DerivedLemmas
pub mod ImportsFollow
pub mod FollowLemmas
pub mod OnceLemmas
pub mod KnownLemmas
pub mod PreludeWorld
pub mod NamedFiles
pub mod OtherFaults
pub mod OtherText
pub mod PartBehind
pub mod PartRows
pub mod PartFits
pub mod LinkedRuns
pub mod Unstuck
pub mod HygienicForms
pub mod HygienicRuns
pub mod KeptTransformers
pub mod NestedForms
pub mod Texts
pub mod Records
pub mod Heights
pub mod TextsNest
pub mod Spans
pub mod Spelt
pub mod Formed
pub mod TextsPass
mod Parts
mod References
mod FollowerRows
mod Kept
mod VersionLemmas
mod PassLemmas
pub mod GrownLemmas
