-- One step after another over a list; the first fault is the fault of all.
use Rattle.std.specs.Prelude.{Result, Ok, List, [], ◌∷◌}
use Rattle.base_data.specs.Gives.{◌>>=◌}
use Rattle.base_data.specs.declared.fault.Fault.{Fault}

abbrev pub turns : {S X : Type 0} → (S → X → Result S Fault) → S → List X → Result S Fault
turns step s [] = Ok s
turns step s (x ∷ xs) = step s x >>= (λ t. turns step t xs)
