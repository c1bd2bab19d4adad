-- Stages on which nothing gets stuck.
use Rattle.std.specs.Prelude.{◌≡◌, true, List, Option, None, Some, Result, Ok, Err, IsTrue}
use Rattle.std.specs.List.{flat_map}
use Rattle.base_data.specs.Elements.{Among}
use Rattle.base_data.specs.declared.fault.Fault.{Fault}
use Rattle.base_data.specs.declared.library.LibName.{LibName}
use Rattle.base_data.specs.declared.name.CodeNo.{CodeNo}
use Rattle.base_data.specs.declared.name.Label.{Label}
use Rattle.core_language.specs.Core.{PlainCore}
use Rattle.core_language.specs.declared.record.CompiledLibrary.{CompiledLibrary}
use Rattle.law_core.specs.Parts.{code_numbers}
use Rattle.law_core.specs.Records.{defined}
use Rattle.law_core.specs.Follows.{line_cores}
use Rattle.eval_value.specs.Cells.{is_found}
use Rattle.eval_value.specs.declared.value.Value.{Value}
use Rattle.eval_code.specs.Codes.{code_at}
use Rattle.eval_code.specs.Setting.{PlainSetting}
use Rattle.law_whole.specs.Evaluated.{AreFound}
use Rattle.law_whole.specs.WholeWorld.{ValueReady, WholeWorld}
use Rattle.eval_stage.specs.Libraries.{has_library}
use Rattle.eval_stage.specs.Running.{setting_on}
use Rattle.eval_stage.specs.Stage.{PlainStage, keyword_at}
use Rattle.eval_stage.specs.declared.keyword.Keyword.{Keyword}
use Rattle.eval_stage.specs.declared.keyword.Keyword.TheVariants as keyword
use Rattle.law_stuck.specs.Behind.{IsKeywordOf}
use Rattle.law_stuck.specs.Kinds.{NotStuck}

-- A keyword of the library, or of a record: its transformer is kept, and its expression has a code of this number.

pub record OwnHasCode (own : LibName) (keywords : List (Label × Keyword)) (n : CodeNo) : Type 0 where
  pub label : Label
  pub expression : PlainCore
  pub value : Value
  pub kept : keyword_at keywords label ≡ Some (keyword.Kept (Some expression) value)
  pub among : Among (code_numbers expression) n
  pub label_here : label.0.library ≡ own
  pub code_here : n.0.library ≡ own

pub record ImportedHasCode (rs : List CompiledLibrary) (keywords : List (Label × Keyword)) (n : CodeNo) : Type 0 where
  pub label : Label
  pub expression : PlainCore
  pub value : Value
  pub imported : IsKeywordOf rs label expression
  pub kept : keyword_at keywords label ≡ Some (keyword.Kept None value)
  pub among : Among (code_numbers expression) n

module _ (own : LibName) (texts : List CodeNo) (rs : List CompiledLibrary) where
  -- Why the code of a procedure stands on a stage: it is that of a text, it stands in the expression of such a keyword, or in the lines of a library
  -- that was evaluated.
  pub data HasCode (keywords : List (Label × Keyword)) (evaluated : List LibName) (n : CodeNo) : Type 0 where
    text : Among texts n → HasCode keywords evaluated n
    ours : OwnHasCode own keywords n → HasCode keywords evaluated n
    imported : ImportedHasCode rs keywords n → HasCode keywords evaluated n
    line : (r : CompiledLibrary) → Among rs r → has_library evaluated r.name ≡ true → Among (flat_map code_numbers (line_cores r)) n
        → HasCode keywords evaluated n

abbrev pub world_of : PlainStage → PlainSetting
world_of s = setting_on s.codes s

abbrev pub IsReadyOn : PlainStage → Value → Type 0
IsReadyOn s v = ValueReady (world_of s) s.cells v

-- Of a library behind some records, and with the codes of these texts: its world is whole, what is kept is ready, each code stands for one of these
-- reasons, and the variables of a library that was evaluated have values.
pub record Steady (own : LibName) (texts : List CodeNo) (rs : List CompiledLibrary) (s : PlainStage) : Type 0 where
  pub whole : WholeWorld (world_of s) s.cells
  pub kept : (l : Label) (e : Option PlainCore) (v : Value) → keyword_at s.keywords l ≡ Some (keyword.Kept e v) → IsReadyOn s v
  pub codes : (n : CodeNo) → IsTrue (is_found (code_at s.codes n)) → HasCode own texts rs s.keywords s.evaluated n
  pub defined : (r : CompiledLibrary) → Among rs r → has_library s.evaluated r.name ≡ true → AreFound s.globals (defined r)

-- this holds of what is given and of the stage that is left, or there is a fault that isn't that of cells that don't fit
abbrev pub Ends : {A : Type 0} → (A → PlainStage → Type 0) → Result (A × PlainStage) Fault → Type 0
Ends P (Ok p) = P p.0 p.1
Ends P (Err f) = NotStuck f.kind

abbrev pub EndsSteady : {A : Type 0} → LibName → List CodeNo → List CompiledLibrary → Result (A × PlainStage) Fault → Type 0
EndsSteady own texts rs r = Ends (λ a t. Steady own texts rs t) r

-- the value is ready there
abbrev pub EndsReady : LibName → List CodeNo → List CompiledLibrary → Result (Value × PlainStage) Fault → Type 0
EndsReady own texts rs r = Ends (λ v t. Steady own texts rs t × IsReadyOn t v) r
