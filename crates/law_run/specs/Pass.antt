-- The checker accepts what a run writes.
use Rattle.std.specs.Prelude.{ℕ, List}
use Rattle.check_verdict.specs.Judged.{Judged}
use Rattle.check_verdict.specs.declared.verdict.Verdict.TheVariants as verdict
use Rattle.core_language.specs.declared.record.CompiledLibrary.{CompiledLibrary}
use Rattle.load_files.specs.declared.found.Found.{Found}
use Rattle.load_files.specs.declared.found.Loading.{Loading}
use Rattle.base_outside.specs.Contents.{Paths}
use Rattle.run_prelude.specs.Prelude.{prelude_table}
use Rattle.law_run.specs.Run.{run_inputs}
use Rattle.law_run.specs.Spelled.{GivesText}

-- The text of each run is a core text, by the cases of the checker's grammar.
abbrev pub TextsPass : Type 0
TextsPass = (files : Paths) (roots : List (List ℕ)) (path : List ℕ) (found : Found) (s : Loading) (records : List CompiledLibrary)
    (program : CompiledLibrary) (text : List ℕ)
    → GivesText (run_inputs prelude_table files roots path) found s records program text → Judged text verdict.Yes
