-- Faults at a place of a file.
use Rattle.std.specs.Prelude.{ℕ, List, [], Result, Err}
use Rattle.base_data.specs.declared.fault.Fault.{Fault}
use Rattle.base_data.specs.declared.fault.FaultKind.{FaultKind}

-- without words
abbrev pub fault_at : List ℕ → FaultKind → ℕ → ℕ → Fault
fault_at file kind from to = record { kind = kind; span = record { file = file; from = from; to = to }; words = [] }

abbrev pub refused : {A : Type 0} → List ℕ → FaultKind → ℕ → ℕ → Result A Fault
refused file kind from to = Err (fault_at file kind from to)
