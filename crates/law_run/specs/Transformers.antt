-- The transformers that are kept have their procedures: that of a variable transformer lies in its cell.
use Rattle.std.specs.Prelude.{◌≡◌, ℕ, true, List, [], ◌∷◌, map, Option, None, Some, Result, Ok, Err}
use Rattle.base_data.specs.declared.fault.Fault.{Fault}
use Rattle.base_data.specs.declared.imported_name.ImportedName.{ImportedName}
use Rattle.base_data.specs.declared.library.LibName.{LibName}
use Rattle.base_data.specs.declared.library.LibName.TheVariants as library
use Rattle.base_data.specs.declared.name.CodeNo.{CodeNo}
use Rattle.base_data.specs.declared.name.FrameNo.{FrameNo}
use Rattle.base_data.specs.declared.name.Label.{Label}
use Rattle.base_data.specs.declared.span.Span.{Span}
use Rattle.stx_tree.specs.Tree.{Tree}
use Rattle.core_language.specs.Bindings.{bound_to}
use Rattle.core_language.specs.Core.{PlainCore, PlainCode}
use Rattle.core_language.specs.declared.record.CompiledLibrary.{CompiledLibrary}
use Rattle.eval_code.specs.Codes.{Codes}
use Rattle.expand_forms.specs.Expression.{inside}
use Rattle.expand_forms.specs.Top.{top}
use Rattle.expand_forms.specs.declared.top.TopAt.{TopAt}
use Rattle.expand_forms.specs.Site.{site_at}
use Rattle.law_expand.specs.Ready.{IsReady}
use Rattle.load_import.specs.Names.{Labelled}
use Rattle.run_library.specs.Loaded.{all_records}
use Rattle.run_library.specs.Records.{needed_records}
use Rattle.load_files.specs.Load.{load}
use Rattle.load_files.specs.declared.found.Found.{Found}
use Rattle.load_files.specs.declared.found.Loading.{Loading}
use Rattle.base_outside.specs.Contents.{Paths}
use Rattle.run_prelude.specs.Prelude.{prelude_table}
use Rattle.eval_stage.specs.Stage.{PlainStage, keyword_at, stuck}
use Rattle.eval_stage.specs.Transformers.{keyword_value}
use Rattle.eval_stage.specs.Uses.{procedure_in, used}
use Rattle.eval_stage.specs.declared.keyword.Keyword.TheVariants as keyword
use Rattle.expand_standing.specs.Start.{started}
use Rattle.expand_standing.specs.State.{State, stage_of}
use Rattle.expand_standing.specs.Uses.{macro_expression}
use Rattle.law_steady.specs.Libraries.{AreTexts}
use Rattle.law_steady.specs.States.{IsWholeState}
use Rattle.law_stuck.specs.Behind.{IsOfTexts, AllBehind}
use Rattle.law_stuck.specs.Kinds.{NotStuck}
use Rattle.eval_value.specs.declared.cell.Cell.{Cell}
use Rattle.eval_value.specs.declared.value.Value.{Value}
use Rattle.law_run.specs.Parts.{IsPartOfRun}
use Rattle.law_run.specs.Run.{run_inputs}

-- there is the procedure of a value, which for a variable transformer lies in its cell
abbrev pub HasProcedure : List Cell → Value → Type 0
HasProcedure cells v = (f : Value) × (procedure_in cells v ≡ Some f)

-- so it is with each transformer that a stage keeps
abbrev pub KeptHaveProcedures : PlainStage → Type 0
KeptHaveProcedures g = (l : Label) (e : Option PlainCore) (v : Value) → keyword_at g.keywords l ≡ Some (keyword.Kept e v) → HasProcedure g.cells v

-- ---- whole states

-- What is kept in a whole state, has its procedure.
abbrev pub WholeStatesHaveProcedures : Type 0
WholeStatesHaveProcedures = (own : LibName) (texts : List CodeNo) (records : List CompiledLibrary) (s : State)
    → IsWholeState own texts records s → KeptHaveProcedures (stage_of s)

-- So has the transformer of each keyword that is used there, an imported one that is evaluated now included, on the stage that is left then.
abbrev pub UsesFindProcedures : Type 0
UsesFindProcedures = (own : LibName) (texts : List CodeNo) (records : List CompiledLibrary) (place : Span) (l : Label) (s : State) (v : Value) (g : PlainStage)
    → IsWholeState own texts records s → keyword_value place records l (macro_expression (bound_to s.bindings l)) (stage_of s) ≡ Ok (v, g)
    → HasProcedure g.cells v

-- A use whose transformer has none is at fault as one that got stuck, so where a fault is another one no such use led to it.
abbrev pub MissingIsStuck : Type 0
MissingIsStuck = (place : Span) (records : List CompiledLibrary) (form : Tree) (l : Label) (e : Option PlainCore) (frame : Option FrameNo)
    (s g : PlainStage) (v : Value)
    → keyword_value place records l e s ≡ Ok (v, g) → procedure_in g.cells v ≡ None → used place records form l e frame s ≡ Err (stuck place)

-- what is done ends in a whole state, or at fault in another way
abbrev pub StaysWhole : {A : Type 0} → LibName → List CodeNo → List CompiledLibrary → Result (A × State) Fault → Type 0
StaysWhole own texts records (Ok p) = IsWholeState own texts records p.1
StaysWhole own texts records (Err f) = NotStuck f.kind

-- whatever form is expanded in a whole state
abbrev pub FormsStayWhole : Type 0
FormsStayWhole = (own : LibName) (texts : List CodeNo) (records : List CompiledLibrary) (room : ℕ) (place : Span) (level depth : ℕ) (t : Tree) (s : State)
    → IsWholeState own texts records s → StaysWhole own texts records ((inside records room).form (site_at place level depth) t s)

-- and whatever the exports and forms of a library or program are, whose frame is of the library
abbrev pub BodiesStayWhole : Type 0
BodiesStayWhole = (own : LibName) (texts : List CodeNo) (records : List CompiledLibrary) (room : ℕ) (at : TopAt)
    (exports : List (List ℕ × Tree)) (forms : List Tree) (s : State)
    → at.frame.0.library ≡ own → IsWholeState own texts records s → StaysWhole own texts records (top (inside records room) at exports forms s)

-- ---- where an expansion begins

abbrev pub numbers_in : Codes → List CodeNo
numbers_in codes = map (λ (e : CodeNo × PlainCode). e.0) codes

-- the expansion of a library with a new name begins so, behind records that stand behind one another, whatever it imports
abbrev pub StartsAreWhole : Type 0
StartsAreWhole = (own : LibName) (records : List CompiledLibrary) (imports : List ImportedName) (codes : Codes) → IsReady own records
    → AllBehind [] records → (IsOfTexts own → ⊥) → AreTexts codes
    → IsWholeState own (numbers_in codes) records (started own records imports codes)

-- with the codes that the texts of the prelude come to
abbrev pub StartsWhole : Result Codes Fault → List CompiledLibrary → LibName → Type 0
StartsWhole prelude behind name = (table : Codes) (imports : Labelled) → prelude ≡ Ok table
    → IsWholeState name (numbers_in table) behind (started name behind imports table)

-- So it is with the library that comes next in a part of a run, whatever comes of it
abbrev pub PartsStartWhole : Type 0
PartsStartWhole = (files : Paths) (roots : List (List ℕ)) (path : List ℕ) (s : Loading) (first : List (List ℕ × Found)) (file : List ℕ)
    (f : Found) (left : List (List ℕ × Found)) (records : List CompiledLibrary)
    → IsPartOfRun (run_inputs prelude_table files roots path) s first ((file, f) ∷ left) records
    → StartsWhole prelude_table (needed_records records (true ∷ f.needs)) f.opened.form.name

-- with the program, where loading came to its end and each library was expanded
abbrev pub ProgramsStartWhole : Type 0
ProgramsStartWhole = (files : Paths) (roots : List (List ℕ)) (path : List ℕ) (found : Found) (s : Loading) (records : List CompiledLibrary)
    → load files roots path ≡ Ok (found, s) → all_records prelude_table s.done ≡ Ok records
    → StartsWhole prelude_table (needed_records records (true ∷ found.needs)) found.opened.form.name

-- and with the derived library, which comes first.
abbrev pub DerivedStartsWhole : Type 0
DerivedStartsWhole = StartsWhole prelude_table [] library.Derived
