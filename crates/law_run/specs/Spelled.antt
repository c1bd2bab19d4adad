-- The core text of a run: how it is spelled, and what it is read as.
use Rattle.std.specs.Prelude.{◌≡◌, ℕ, List, map, Result, Ok}
use Rattle.base_data.specs.Datum.{PlainDatum}
use Rattle.base_data.specs.Elements.{Each}
use Rattle.base_data.specs.declared.fault.Fault.{Fault}
use Rattle.core_language.specs.declared.record.CompiledLibrary.{CompiledLibrary}
use Rattle.core_language.specs.declared.record.Line.{Line}
use Rattle.law_core_grammar.specs.Lines.{SpellLines, all_lines}
use Rattle.law_core_grammar.specs.Names.{AreGenerated}
use Rattle.law_core_grammar.specs.ReadBack.{IsTextReadBack}
use Rattle.law_core_grammar.specs.SameCode.{line_by_names}
use Rattle.law_core_grammar.specs.Spellable.{IsLineSpellable, CanBeRead, constants}
use Rattle.law_core.specs.Records.{line_core}
use Rattle.core_output.specs.CoreText.{VariableNames}
use Rattle.core_output.specs.Whole.{all_names, core_text}
use Rattle.eval_code.specs.Codes.{Codes}
use Rattle.load_files.specs.declared.found.Found.{Found}
use Rattle.load_files.specs.declared.found.Loading.{Loading}
use Rattle.base_outside.specs.Contents.{Paths}
use Rattle.core_plan.specs.Planned.{plan_of}
use Rattle.law_run.specs.Run.{RunInputs, run_inputs, IsRun}

-- the names that a run writes its variables with, and its lines
abbrev pub run_names : List CompiledLibrary → CompiledLibrary → VariableNames
run_names records program = all_names records (plan_of records program) program

abbrev pub run_lines : List CompiledLibrary → CompiledLibrary → List Line
run_lines records program = all_lines records (plan_of records program) program

module _ (inputs : RunInputs) where
  -- a run, and the text that it gives
  pub record GivesText (found : Found) (s : Loading) (records : List CompiledLibrary) (program : CompiledLibrary) (text : List ℕ) : Type 0 where
    pub run : IsRun inputs found s records program
    pub given : core_text records (plan_of records program) program ≡ Ok text

-- each line has what a spelling asks of it, and so has one
pub record IsSpelled (names : VariableNames) (lines : List Line) : Type 0 where
  pub generated : AreGenerated names
  pub spellable : Each (IsLineSpellable names) lines
  pub spellings : List PlainDatum
  pub spelled : SpellLines names lines spellings

abbrev pub RunsAreSpelled : Type 0
RunsAreSpelled = (prelude : Result Codes Fault) (files : Paths) (roots : List (List ℕ)) (path : List ℕ) (found : Found) (s : Loading)
    (records : List CompiledLibrary) (program : CompiledLibrary) (text : List ℕ)
    → GivesText (run_inputs prelude files roots path) found s records program text → IsSpelled (run_names records program) (run_lines records program)

-- each constant of the lines can be read, where some number of forms may be nested
abbrev pub CanAllBeRead : List Line → Type 0
CanAllBeRead lines = Each (λ l. Each CanBeRead (constants (line_core l))) lines

abbrev pub RunsAreReadBack : Type 0
RunsAreReadBack = (prelude : Result Codes Fault) (files : Paths) (roots : List (List ℕ)) (path : List ℕ) (found : Found) (s : Loading)
    (records : List CompiledLibrary) (program : CompiledLibrary) (text : List ℕ)
    → GivesText (run_inputs prelude files roots path) found s records program text → CanAllBeRead (run_lines records program)
    → IsTextReadBack (run_names records program) (run_lines records program) text

-- two runs with one text have the same lines but for their variables, of which the text tells the names
abbrev pub RunsTellTheirLines : Type 0
RunsTellTheirLines = (prelude prelude' : Result Codes Fault) (files files' : Paths) (roots roots' : List (List ℕ)) (path path' : List ℕ)
    (found found' : Found) (s s' : Loading)
    (records records' : List CompiledLibrary) (program program' : CompiledLibrary) (text : List ℕ)
    → GivesText (run_inputs prelude files roots path) found s records program text → CanAllBeRead (run_lines records program)
    → GivesText (run_inputs prelude' files' roots' path') found' s' records' program' text → CanAllBeRead (run_lines records' program')
    → map (line_by_names (run_names records program)) (run_lines records program)
    ≡ map (line_by_names (run_names records' program')) (run_lines records' program')
