-- The text that a run writes.
use Rattle.std.specs.Prelude.{◌≡◌, ℕ, List, Result, Ok}
use Rattle.base_data.specs.declared.fault.Fault.{Fault}
use Rattle.core_language.specs.declared.record.CompiledLibrary.{CompiledLibrary}
use Rattle.core_output.specs.Whole.{all_names, core_text}
use Rattle.eval_code.specs.Codes.{Codes}
use Rattle.load_files.specs.declared.found.Found.{Found}
use Rattle.load_files.specs.declared.found.Loading.{Loading}
use Rattle.base_outside.specs.Contents.{Paths}
use Rattle.core_plan.specs.Planned.{plan_of}
use Rattle.law_run.specs.Run.{run_inputs, IsRun}
use Rattle.law_text.specs.Text.{text_of}
use Rattle.law_run.specs.Names.{IsWrittenOnce}

-- where a run gives a text
abbrev pub RunsAreWrittenOnce : Type 0
RunsAreWrittenOnce = (prelude : Result Codes Fault) (files : Paths) (roots : List (List ℕ)) (path : List ℕ) (found : Found) (s : Loading)
    (records : List CompiledLibrary) (program : CompiledLibrary) (text : List ℕ)
    → IsRun (run_inputs prelude files roots path) found s records program → core_text records (plan_of records program) program ≡ Ok text
    → IsWrittenOnce (all_names records (plan_of records program) program) (text_of records program)
