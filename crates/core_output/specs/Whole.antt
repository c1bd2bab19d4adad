-- The core text of a program.
use Rattle.std.specs.Prelude.{ℕ, List, [], ◌∷◌, ◌++◌, Option, None, Some, Result, Ok, slice_get, codes}
use Rattle.base_data.specs.Gives.{◌>>=◌}
use Rattle.base_data.specs.declared.fault.Fault.{Fault}
use Rattle.core_language.specs.declared.record.CompiledLibrary.{CompiledLibrary}
use Rattle.core_output.specs.CoreText.{VariableNames, lines_text}
use Rattle.core_output.specs.Naming.{with_names}
use Rattle.core_output.specs.Syntax.{Checked, written, lines_checked}

abbrev pub named_by : VariableNames → Option CompiledLibrary → VariableNames
named_by names None = names
named_by names (Some r) = with_names names r.bindings

-- the names of the records at these places
abbrev pub plan_names : List CompiledLibrary → VariableNames → List ℕ → VariableNames
plan_names records names [] = names
plan_names records names (p ∷ ps) = plan_names records (named_by names (slice_get records p)) ps

abbrev pub record_checked : Option CompiledLibrary → Checked
record_checked None = written
record_checked (Some r) = lines_checked r.run

abbrev pub plan_checked : List CompiledLibrary → List ℕ → Checked
plan_checked records [] = written
plan_checked records (p ∷ ps) = record_checked (slice_get records p) >>= λ _. plan_checked records ps

abbrev pub record_text : VariableNames → Option CompiledLibrary → List ℕ
record_text names None = []
record_text names (Some r) = lines_text names r.run

abbrev pub plan_text : List CompiledLibrary → VariableNames → List ℕ → List ℕ
plan_text records names [] = []
plan_text records names (p ∷ ps) = record_text names (slice_get records p) ++ plan_text records names ps

abbrev pub all_names : List CompiledLibrary → List ℕ → CompiledLibrary → VariableNames
all_names records plan program = with_names (plan_names records [] plan) program.bindings

abbrev pub all_text : VariableNames → List CompiledLibrary → List ℕ → CompiledLibrary → List ℕ
all_text names records plan program = codes "(import (rnrs))\n" ++ plan_text records names plan ++ lines_text names program.run

-- the planned libraries in their order, and then the program, or the fault of the first form without a text
abbrev pub core_text : List CompiledLibrary → List ℕ → CompiledLibrary → Result (List ℕ) Fault
core_text records plan program =
    plan_checked records plan >>= λ _. (lines_checked program.run >>= λ _. Ok (all_text (all_names records plan program) records plan program))
