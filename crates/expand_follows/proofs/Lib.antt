mod ClosedLemmas
mod Tables
mod Own
mod KnownLemmas
mod Indices
mod CodeLemmas
mod DefinesLemmas
mod ReferenceLemmas
