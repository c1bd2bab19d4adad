-- Settings, states and outcomes of an evaluation in which an invariant holds.
use Rattle.std.specs.Prelude.{◌≡◌, ◌≤◌, ℕ}
use Rattle.base_data.specs.declared.library.LibName.{LibName}
use Rattle.eval_code.specs.Setting.{PlainSetting}
use Rattle.eval_code.specs.State.{WorldState, Outcome, done, faulted, unfit}
use Rattle.law_invariants.specs.Holds.{ValueHolds, CellsHold, CodesHold, GlobalsHold}
use Rattle.law_invariants.specs.Invariant.{Invariant}

-- what an evaluation reads
pub record SettingHolds (I : Invariant) (w : PlainSetting) : Type 0 where
  pub codes : CodesHold I w.codes
  pub globals : GlobalsHold I w.globals

-- No name that was taken is free again, and in the cells holds what holds before the next is taken.
pub record StateHolds (own : LibName) (I : ℕ → Invariant) (m : ℕ) (s : WorldState) : Type 0 where
  pub up : m ≤ s.names.number
  pub library : s.names.library ≡ own
  pub cells : CellsHold (I s.names.number) s.cells

-- an outcome from when this was the next name, with what holds then
abbrev pub OutcomeHolds : (own : LibName) (I : ℕ → Invariant) (m : ℕ) → Outcome → Type 0
OutcomeHolds own I m (done v s n) = StateHolds own I m s × ValueHolds (I s.names.number) v
OutcomeHolds own I m (faulted f s n) = StateHolds own I m s
OutcomeHolds own I m unfit = Unit {0}
