-- A program's binding map beside its core text.
use Rattle.std.specs.Prelude.{◌≡◌, ℕ, List, Result, Ok, Err}
use Rattle.base_data.specs.declared.fault.Fault.{Fault}
use Rattle.eval_code.specs.Codes.{Codes}
use Rattle.load_files.specs.Load.{Loads}
use Rattle.load_files.specs.declared.found.Found.{Found}
use Rattle.load_files.specs.declared.found.Loading.{Loading}
use Rattle.run_top.specs.Whole.{text_by}
use Rattle.run_command.specs.declared.job.Kind.TheVariants.{Core, Xref}

-- a fault in place of a map is the fault in place of the core text
abbrev pub MapFaultsAreFaults : Type 0
MapFaultsAreFaults = (prelude : Result Codes Fault) (loaded : Loads (Found × Loading)) (f : Fault) → text_by Xref prelude loaded ≡ Err f
    → text_by Core prelude loaded ≡ Err f

-- and where there is a core text, there is a map
abbrev pub TextsHaveMaps : Type 0
TextsHaveMaps = (prelude : Result Codes Fault) (loaded : Loads (Found × Loading)) (text : List ℕ) → text_by Core prelude loaded ≡ Ok text
    → (written : List ℕ) × (text_by Xref prelude loaded ≡ Ok written)
