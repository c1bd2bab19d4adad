-- The fuel of expansions, one after another.
use Rattle.std.specs.Prelude.{ℕ, Result, Ok, Err}
use Rattle.base_data.specs.declared.fault.Fault.{Fault}
use Rattle.base_data.specs.declared.fault.Stop.{Stop}
use Rattle.base_data.specs.declared.fault.Stop.TheVariants as stops

-- what is spent behind an expansion, which goes on from what it gives; behind a fault nothing goes on
abbrev pub spent_behind : {A : Type 0} → Result A Fault → (A → ℕ) → ℕ
spent_behind (Ok x) spent = spent x
spent_behind (Err f) spent = 0

-- what holds of an answer and of a fault
abbrev pub UnlessMemory : {X : Type 0} → Result X Stop → Type 0 → Type 0
UnlessMemory (Ok x) P = P
UnlessMemory (Err (stops.Fault f)) P = P
UnlessMemory (Err stops.Memory) P = Unit {0}
