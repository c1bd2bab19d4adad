pub mod RepeatTurns
pub mod StringTurns
pub mod RowLemmas
pub mod BetweenLemmas
pub mod BareLemmas
pub mod StringLemmas
pub mod CharacterLemmas
pub mod TokenLemmas
