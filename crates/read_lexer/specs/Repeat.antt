-- One step after another, each up to an offset, until one stays where it is.
use Rattle.std.specs.Prelude.{ℕ, zero, suc, ◌-◌, List, length, drop, Result, Ok, ◌==◌, if◌then◌else◌}
use Rattle.base_data.specs.Gives.{◌>>=◌}
use Rattle.base_data.specs.declared.fault.Fault.{Fault}

-- from the bytes at an offset; k steps are enough where the bytes are fewer
unfoldable pub repeated : (List ℕ → ℕ → Result ℕ Fault) → ℕ → List ℕ → ℕ → Result ℕ Fault
repeated step zero bytes at = Ok at
repeated step (suc k) bytes at = step bytes at >>= λ to. if to == at then Ok at else repeated step k (drop (to - at) bytes) to

-- the offset at which a step stays, or the first fault
abbrev pub repeat : (List ℕ → ℕ → Result ℕ Fault) → List ℕ → ℕ → Result ℕ Fault
repeat step bytes at = repeated step (suc (length bytes)) bytes at
