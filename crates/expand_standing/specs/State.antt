-- The state of a library's expansion.
use Rattle.std.specs.Prelude.{ℕ, ◌+◌, List, [], ◌∷◌, ◌++◌, Option, None, Some, Result, Ok, Err, refl}
use Rattle.std.specs.Coded.{Coded, code_by, coded×, coded_ℕ, coded_list}
use Rattle.base_data.specs.Act.{Act, fail}
use Rattle.base_data.specs.Named.{Named}
use Rattle.base_data.specs.contracts.library.LibName as libraries
use Rattle.base_data.specs.contracts.name.Label as labels
use Rattle.base_data.specs.declared.library.LibName.{LibName}
use Rattle.base_data.specs.declared.fault.Fault.{Fault}
use Rattle.base_data.specs.declared.fault.FaultKind.TheVariants as kind
use Rattle.base_data.specs.declared.name.Label.{Label}
use Rattle.base_data.specs.declared.name.FrameNo.{FrameNo}
use Rattle.base_data.specs.declared.span.Span.{Span}
use Rattle.stx_tree.specs.Tree.{Tree}
use Rattle.stx_frames.specs.Scope.{Scope}
use Rattle.stx_scope.specs.Stands.{symbol_of}
use Rattle.core_language.specs.Bindings.{bindings_code}
use Rattle.core_language.specs.contracts.link.Link as link_rows
use Rattle.core_language.specs.declared.binding.Binding.{Binding}
use Rattle.core_language.specs.declared.link.Link.{Link}
use Rattle.core_language.specs.declared.link.LinkKind.{LinkKind}
use Rattle.eval_value.specs.declared.cell.Cell.{Cell}
use Rattle.eval_value.specs.declared.value.Value.{Value}
use Rattle.eval_code.specs.Codes.{Codes}
use Rattle.eval_stage.specs.Stage.{PlainStage, stage_code}
use Rattle.eval_stage.specs.declared.keyword.Keyword.{Keyword}
use Rattle.core_shapes.specs.At.{fault_at}

-- the library; the next name; what symbols stand for in each frame; what labels are bound to; the labels that the library exports and
-- the variables that it assigns; how many uses of keywords are left; how many uses of `define-record-type` there were; how many variables were
-- bound at level 0; the labels in scope that aren't of the top. Then what else the stage has on which transformers run: cells, codes, the values of the variables of libraries, the
-- libraries that were evaluated, the keywords, and the fuel that was spent.
pub record State : Type 0 where
  pub library : LibName
  pub names : Named
  pub frames : Scope
  pub bindings : List (Label × Binding)
  pub exports : List Label
  pub assigned : List Label
  pub uses_left : ℕ
  pub record_types : ℕ
  pub index : ℕ
  pub scope : List Label
  pub cells : List Cell
  pub codes : Codes
  pub globals : List (Label × Value)
  pub evaluated : List LibName
  pub keywords : List (Label × Keyword)
  pub spent : ℕ
  pub links : List Link

-- The stage of an expansion.

abbrev pub stage_of : State → PlainStage
stage_of s = record {
  names = s.names;
  frames = s.frames;
  cells = s.cells;
  codes = s.codes;
  globals = s.globals;
  evaluated = s.evaluated;
  keywords = s.keywords;
  spent = s.spent;
}

abbrev pub with_stage : PlainStage → State → State
with_stage g s = record s {
  names = g.names;
  frames = g.frames;
  cells = g.cells;
  codes = g.codes;
  globals = g.globals;
  evaluated = g.evaluated;
  keywords = g.keywords;
  spent = g.spent;
}

-- a code of states, by that of their fields
abbrev pub Fields : Type 0
Fields = LibName × (PlainStage × (List (Label × Binding) × (List Label × (List Label × (ℕ × (ℕ × (ℕ × (List Label × List Link))))))))

abbrev pub fields_of : State → Fields
fields_of s = (s.library, (stage_of s, (s.bindings, (s.exports, (s.assigned, (s.uses_left, (s.record_types, (s.index, (s.scope, s.links)))))))))

abbrev pub of_fields : Fields → State
of_fields f = record {
  library = f.0;
  names = f.1.0.names;
  frames = f.1.0.frames;
  bindings = f.1.1.0;
  exports = f.1.1.1.0;
  assigned = f.1.1.1.1.0;
  uses_left = f.1.1.1.1.1.0;
  record_types = f.1.1.1.1.1.1.0;
  index = f.1.1.1.1.1.1.1.0;
  scope = f.1.1.1.1.1.1.1.1.0;
  cells = f.1.0.cells;
  codes = f.1.0.codes;
  globals = f.1.0.globals;
  evaluated = f.1.0.evaluated;
  keywords = f.1.0.keywords;
  spent = f.1.0.spent;
  links = f.1.1.1.1.1.1.1.1.1;
}

abbrev pub labels_code : Coded (List Label)
labels_code = coded_list labels.the_row.coded

abbrev pub state_code : Coded State
state_code = code_by Fields
    (coded× libraries.the_row.coded (coded× stage_code (coded× bindings_code
    (coded× labels_code (coded× labels_code (coded× coded_ℕ
    (coded× coded_ℕ (coded× coded_ℕ (coded× labels_code (coded_list link_rows.the_row.coded))))))))))
    fields_of of_fields (λ _. refl)

abbrev pub Does : Type 0 → Type 0
Does A = Act State A

-- what is done on the stage
abbrev pub staged : {A : Type 0} → State → Result (A × PlainStage) Fault → Result (A × State) Fault
staged s (Ok p) = Ok (p.0, with_stage p.1 s)
staged s (Err f) = Err f

abbrev pub on_stage : {A : Type 0} → Act PlainStage A → Does A
on_stage m s = staged s (m (stage_of s))

-- the next name of the library, which never comes again
unfoldable pub fresh : Does Named
fresh s = Ok (s.names, record s { names = record { library = s.names.library; number = s.names.number + 1 } })

unfoldable pub fresh_frame : Does FrameNo
fresh_frame s = Ok (record { 0 = s.names }, record s { names = record { library = s.names.library; number = s.names.number + 1 } })

-- an identifier with a span is linked to what it stands for
abbrev pub noted : Option Span → Label → LinkKind → State → State
noted None l k s = s
noted (Some p) l k s = record s { links = s.links ++ record { span = p; label = l; kind = k } ∷ [] }

abbrev pub note : {A : Type 0} → A → Option Span → Label → LinkKind → Does A
note x p l k s = Ok (x, noted p l k s)

-- a fault at a form, or at one of its identifiers with the identifier's symbol as word
abbrev pub fault_form : {A : Type 0} → kind.the_data → Tree → Span → Does A
fault_form kind form place = fail (fault_at kind form place [])

abbrev pub fault_word : {A : Type 0} → kind.the_data → Tree → Tree → Span → Does A
fault_word kind id form place = fail (fault_at kind form place (symbol_of id ∷ []))
