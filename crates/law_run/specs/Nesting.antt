-- How deep the text of a run nests.
use Rattle.std.specs.Prelude.{ℕ, ◌≤◌, ◌+◌, List, [], ◌∷◌, ◌++◌}
use Rattle.base_data.specs.Datum.{PlainDatum}
use Rattle.base_data.specs.Elements.{Each}
use Rattle.core_language.specs.declared.record.CompiledLibrary.{CompiledLibrary}
use Rattle.law_core_grammar.specs.Lines.{SpellLines}
use Rattle.law_core.specs.Records.{line_core}
use Rattle.load_files.specs.declared.found.Found.{Found}
use Rattle.load_files.specs.declared.found.Loading.{Loading}
use Rattle.law_nesting.specs.Heights.{in_text, height_with}
use Rattle.law_nesting.specs.Nesting.{deepest}
use Rattle.law_nesting.specs.Texts.{nested}
use Rattle.base_outside.specs.Contents.{Paths}
use Rattle.run_prelude.specs.Prelude.{prelude_table}
use Rattle.law_round.specs.Readable.{IsReadable}
use Rattle.law_run.specs.Run.{run_inputs, IsRun}
use Rattle.law_run.specs.Spelled.{run_names, run_lines, GivesText}
use Rattle.stx_tree.specs.Measures.{max_height}

-- each line of each record, constants aside
abbrev pub RunsNest : Type 0
RunsNest = (files : Paths) (roots : List (List ℕ)) (path : List ℕ) (found : Found) (s : Loading) (records : List CompiledLibrary) (program : CompiledLibrary)
    → IsRun (run_inputs prelude_table files roots path) found s records program
    → Each (λ r. Each (λ l. height_with in_text (line_core l) ≤ deepest) r.run) (records ++ program ∷ [])

-- A constant is the datum of a tree, which is at most 1,000 high; and a `define` is one list more.
abbrev pub deepest_line : ℕ
deepest_line = deepest + max_height + 1

-- What spells the lines of the text of a run nests no deeper, and so can be read wherever so many forms may be nested.
pub record IsLow (d : PlainDatum) : Type 0 where
  pub nests : nested d ≤ deepest_line
  pub read : (n : ℕ) → deepest_line ≤ n → IsReadable n d

abbrev pub TextsNest : Type 0
TextsNest = (files : Paths) (roots : List (List ℕ)) (path : List ℕ) (found : Found) (s : Loading) (records : List CompiledLibrary)
    (program : CompiledLibrary) (text : List ℕ) (ds : List PlainDatum)
    → GivesText (run_inputs prelude_table files roots path) found s records program text
    → SpellLines (run_names records program) (run_lines records program) ds → Each IsLow ds
