-- The turns of a loop that takes one step after another.
use Rattle.std.proofs.Common.{◌≡◌, ℕ, zero, suc, ◌+◌, ◌<◌, ◌≤◌, ◌-◌, true, false, List, length, drop, Result, Ok, sym, ap, arith, length-drop}
use Rattle.std.specs.Prelude.{◌==◌}
use Rattle.std.proofs.lemmas.Bool.Decides.{nat_tests}
use Rattle.base_data.specs.Gives.{Stops}
use Rattle.base_data.specs.declared.fault.Fault.{Fault}
use Rattle.base_data.specs.declared.fault.Stop.{Stop}
use Rattle.base_data.specs.declared.fault.Stop.TheVariants as stops
use Rattle.read_lexer.specs.Repeat.{repeated}

differ : (to at : ℕ) → at < to → to == at ≡ false
differ to at h = grind (arith, nat_tests)

itself : (at : ℕ) → at == at ≡ true
itself at = grind (arith, nat_tests)

module _ (step : List ℕ → ℕ → Result ℕ Fault) where
  -- the steps from here give this in all
  abbrev pub GoesOn : List ℕ → ℕ → Result ℕ Fault → Type 0
  GoesOn bytes at total = (k : ℕ) × (length bytes < k) × (repeated step k bytes at ≡ total)

  -- a step goes before the rest
  pub turn : (bytes after : List ℕ) (at to : ℕ) (total : Result ℕ Fault) → at < to → to ≤ at + length bytes
      → step bytes at ≡ Ok to → after ≡ drop (to - at) bytes → GoesOn bytes at total → GoesOn after to total
  unfolding repeated
  turn bytes after at to total forward fits given rest (zero, enough, same) = absurd (omega arith)
  turn bytes after at to total forward fits given rest (suc j, enough, same) =
      (j, omega (arith, ap length rest, length-drop (to - at) bytes), rw rest (rw (given, differ to at forward) at same))

  -- a step that stays is the last
  pub stays : (bytes : List ℕ) (at : ℕ) (total : Result ℕ Fault) → step bytes at ≡ Ok at → GoesOn bytes at total → total ≡ Ok at
  unfolding repeated
  stays bytes at total given (zero, enough, same) = sym same
  stays bytes at total given (suc j, enough, same) = sym (rw (given, itself at) at same)

  -- a step that stops is where all stop
  pub halts : (bytes : List ℕ) (at : ℕ) (total : Result ℕ Fault) (s : Stop) → Stops s (step bytes at) → GoesOn bytes at total → Stops s total
  unfolding repeated
  halts bytes at total stops.Memory given goes = tt
  halts bytes at total (stops.Fault f) given (zero, enough, same) = absurd (omega arith)
  halts bytes at total (stops.Fault f) given (suc j, enough, same) = sym (rw given at same)
