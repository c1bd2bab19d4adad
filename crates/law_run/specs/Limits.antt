-- All trees of a run stay within their limits.
use Rattle.std.specs.Prelude.{◌≡◌, ℕ, List, [], ◌∷◌, ◌++◌, Ok}
use Rattle.base_data.specs.Elements.{Each}
use Rattle.core_language.specs.declared.record.CompiledLibrary.{CompiledLibrary}
use Rattle.eval_code.specs.Codes.{Codes}
use Rattle.law_limit_expansion.specs.Records.{RecordHolds}
use Rattle.law_limits.specs.Holds.{CodesHold}
use Rattle.load_files.specs.declared.found.Found.{Found}
use Rattle.load_files.specs.declared.found.Loading.{Loading}
use Rattle.base_outside.specs.Contents.{Paths}
use Rattle.run_prelude.specs.Prelude.{prelude_table}
use Rattle.law_run.specs.Run.{run_inputs, IsRun}
use Rattle.stx_tree.specs.Measures.{Fits}

-- those in the codes of the texts that this implementation has
abbrev pub PreludeStaysWithin : Type 0
PreludeStaysWithin = (codes : Codes) → prelude_table ≡ Ok codes → CodesHold Fits codes

-- and those in all records of a run with these, and in the program's
abbrev pub RunsStayWithin : Type 0
RunsStayWithin = (files : Paths) (roots : List (List ℕ)) (path : List ℕ) (found : Found) (s : Loading) (records : List CompiledLibrary)
    (program : CompiledLibrary)
    → IsRun (run_inputs prelude_table files roots path) found s records program → Each (RecordHolds Fits) (records ++ program ∷ [])
