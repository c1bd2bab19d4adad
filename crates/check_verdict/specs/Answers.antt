-- What calls answer, against what their definitions give: only want of memory is free.
use Rattle.std.specs.Prelude.{◌≡◌, ℕ, List, Option, None, Some, Result, Ok, Err, Vec}
use Rattle.std.specs.Global.{Global}
use Rattle.base_data.specs.Datum.{PlainDatum}
use Rattle.base_data.specs.declared.fault.Fault.{Fault}
use Rattle.base_data.specs.declared.memory.Memory.{Memory}
use Rattle.check_verdict.specs.declared.survey.WalkHalt.{WalkHalt}
use Rattle.check_verdict.specs.declared.survey.WalkHalt.TheVariants as halt
use Rattle.check_verdict.specs.declared.survey.Survey.{Survey}

abbrev pub IsFault : Result (List PlainDatum) Fault → Type 0
IsFault (Ok ds) = ⊥
IsFault (Err f) = Unit {0}

-- the data that are read, or a refusal where there is a fault
abbrev pub Spells : Result (Vec PlainDatum Global) WalkHalt → Result (List PlainDatum) Fault → Type 0
Spells (Ok v) given = given ≡ Ok v.items
Spells (Err halt.Refused) given = IsFault given
Spells (Err halt.Memory) given = Unit {0}

-- what is known behind all lines, or the number of the first that is refused
abbrev pub Finds : Result (Option ℕ) Memory → Survey → Result Survey ℕ → Type 0
Finds (Ok None) after given = given ≡ Ok after
Finds (Ok (Some k)) after given = given ≡ Err k
Finds (Err lack) after given = Unit {0}

-- a refusal at a line
abbrev pub Halts : Result (Option ℕ) Memory → WalkHalt → ℕ → Type 0
Halts (Ok None) h k = ⊥
Halts (Ok (Some n)) h k = (h ≡ halt.Refused) × (n ≡ k)
Halts (Err lack) h k = h ≡ halt.Memory
