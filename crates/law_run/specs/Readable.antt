-- The constants of whole runs can be written and read back.
use Rattle.std.specs.Prelude.{◌≡◌, ℕ, List, [], ◌∷◌, ◌++◌, map, Result, Ok}
use Rattle.base_data.specs.Elements.{Each}
use Rattle.base_data.specs.declared.fault.Fault.{Fault}
use Rattle.core_language.specs.declared.record.CompiledLibrary.{CompiledLibrary}
use Rattle.law_core_grammar.specs.ReadBack.{IsTextReadBack}
use Rattle.law_core_grammar.specs.SameCode.{line_by_names}
use Rattle.law_core_grammar.specs.Spellable.{CanBeRead, constants}
use Rattle.law_core.specs.Records.{line_core}
use Rattle.eval_code.specs.Codes.{Codes}
use Rattle.load_files.specs.declared.found.Found.{Found}
use Rattle.load_files.specs.declared.found.Loading.{Loading}
use Rattle.base_outside.specs.Contents.{Paths}
use Rattle.run_prelude.specs.Prelude.{prelude_table}
use Rattle.law_readable_expansion.specs.Records.{ReadableRecord}
use Rattle.law_readable.specs.Readable.{ReadableCodes}
use Rattle.law_run.specs.Run.{run_inputs, IsRun}
use Rattle.law_run.specs.Spelled.{run_names, run_lines, GivesText}

-- in what procedures mean that are texts
abbrev pub IsReadablePrelude : Result Codes Fault → Type 0
IsReadablePrelude prelude = (codes : Codes) → prelude ≡ Ok codes → ReadableCodes codes

-- so it is in the codes of the texts that this implementation has
abbrev pub PreludeIsReadable : Type 0
PreludeIsReadable = IsReadablePrelude prelude_table

-- and in all records of a run with these, and in the program's
abbrev pub RunsAreReadable : Type 0
RunsAreReadable = (files : Paths) (roots : List (List ℕ)) (path : List ℕ) (found : Found) (s : Loading) (records : List CompiledLibrary)
    (program : CompiledLibrary)
    → IsRun (run_inputs prelude_table files roots path) found s records program → Each ReadableRecord (records ++ program ∷ [])

-- So each constant in the lines of its text is read back, where some number of forms may be nested.
abbrev pub ConstantsAreRead : Type 0
ConstantsAreRead = (files : Paths) (roots : List (List ℕ)) (path : List ℕ) (found : Found) (s : Loading) (records : List CompiledLibrary)
    (program : CompiledLibrary)
    → IsRun (run_inputs prelude_table files roots path) found s records program
    → Each (λ l. Each CanBeRead (constants (line_core l))) (run_lines records program)

-- And the whole text is.
abbrev pub TextsAreReadBack : Type 0
TextsAreReadBack = (files : Paths) (roots : List (List ℕ)) (path : List ℕ) (found : Found) (s : Loading) (records : List CompiledLibrary)
    (program : CompiledLibrary) (text : List ℕ)
    → GivesText (run_inputs prelude_table files roots path) found s records program text
    → IsTextReadBack (run_names records program) (run_lines records program) text

-- Two such runs with one text have the same lines but for their variables, of which the text tells the names.
abbrev pub TextsTellTheirLines : Type 0
TextsTellTheirLines = (files files' : Paths) (roots roots' : List (List ℕ)) (path path' : List ℕ) (found found' : Found) (s s' : Loading)
    (records records' : List CompiledLibrary) (program program' : CompiledLibrary) (text : List ℕ)
    → GivesText (run_inputs prelude_table files roots path) found s records program text
    → GivesText (run_inputs prelude_table files' roots' path') found' s' records' program' text
    → map (line_by_names (run_names records program)) (run_lines records program)
    ≡ map (line_by_names (run_names records' program')) (run_lines records' program')
