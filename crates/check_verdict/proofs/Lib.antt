mod Effects
pub mod Same
mod WalkLaw
mod ReadLaw
mod NamesLaw
mod LineEnds
mod LinesLaw
mod VerdictLaw
mod RunLaw
mod Steps
mod PrimitiveNames
