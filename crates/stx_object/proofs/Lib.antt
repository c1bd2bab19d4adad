pub mod WrapLemmas
pub mod NodeLemmas
pub mod ListLemmas
pub mod GivesLemmas
pub mod StripLemmas
pub mod GrownLemmas
pub mod Lengths
