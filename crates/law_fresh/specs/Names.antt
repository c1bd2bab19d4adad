-- What is met on leaves rises with the names of a library: what was met is met later, too.
use Rattle.std.specs.Prelude.{◌≤◌, ◌<◌, ℕ, [], ◌∷◌}
use Rattle.base_data.specs.declared.library.LibName.{LibName}
use Rattle.stx_tree.specs.Context.{LeafContext}
use Rattle.eval_code.specs.Setting.{PlainSetting}
use Rattle.eval_code.specs.State.{WorldState, Outcome}
use Rattle.law_invariants.specs.Outcome as outcome
use Rattle.law_fresh.specs.Leaves.{leaves}

-- the only mark of a temporary, whose name is this one of the library
abbrev pub temporary_context : LibName → ℕ → LeafContext
temporary_context own n = record { marks = record { 0 = record { library = own; number = n } } ∷ []; stamps = [] }

-- P says what may be met on a leaf before the name of this number is taken: what could be met before, and temporaries of the names from a
-- first one on.
pub record FreshRises (own : LibName) (first : ℕ) (P : ℕ → LeafContext → Type 0) : Type 0 where
  pub later : (m n : ℕ) (c : LeafContext) → m ≤ n → P m c → P n c
  pub temporary : (m n : ℕ) → first ≤ m → m < n → P n (temporary_context own m)

-- what an evaluation reads
abbrev pub SettingHolds : (P : LeafContext → Type 0) → PlainSetting → Type 0
SettingHolds P = outcome.SettingHolds (leaves P)

-- No name that was taken is free again, and each leaf in the cells may be met by then.
abbrev pub StateHolds : (own : LibName) (P : ℕ → LeafContext → Type 0) (m : ℕ) → WorldState → Type 0
StateHolds own P m = outcome.StateHolds own (λ n. leaves (P n)) m

-- an outcome from when this was the next name, with what may be met then
abbrev pub OutcomeHolds : (own : LibName) (P : ℕ → LeafContext → Type 0) (m : ℕ) → Outcome → Type 0
OutcomeHolds own P m = outcome.OutcomeHolds own (λ n. leaves (P n)) m
