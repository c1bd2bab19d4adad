-- The mark that a use of a keyword takes is new.
use Rattle.std.specs.Prelude.{◌≡◌, List, Option, Ok}
use Rattle.base_data.specs.Elements.{Among}
use Rattle.base_data.specs.declared.library.LibName.{LibName}
use Rattle.base_data.specs.declared.library.LibName.TheVariants as library
use Rattle.base_data.specs.declared.name.FrameNo.{FrameNo}
use Rattle.base_data.specs.declared.name.Label.{Label}
use Rattle.base_data.specs.declared.name.Mark.{Mark}
use Rattle.base_data.specs.declared.span.Span.{Span}
use Rattle.stx_tree.specs.Tree.{Tree}
use Rattle.core_language.specs.Core.{PlainCore}
use Rattle.core_language.specs.declared.core_form.CoreForm.{CoreForm}
use Rattle.core_language.specs.declared.record.CompiledLibrary.{CompiledLibrary}
use Rattle.law_hygiene.specs.Binder.{IsNew}
use Rattle.law_hygiene.specs.Marked.{Lacks, Untouched}
use Rattle.eval_stage.specs.Stage.{PlainStage, name_after}
use Rattle.eval_stage.specs.Transformers.{keyword_value}
use Rattle.eval_stage.specs.Uses.{used, transform_marked}
use Rattle.expand_standing.specs.RecordUses.{record_marked, use_record}
use Rattle.expand_standing.specs.State.{State, stage_of}
use Rattle.eval_value.specs.declared.value.Value.{Value}
use Rattle.law_fresh.specs.Leaves.{TreeHolds, CellsHold, CodesHold, GlobalsHold}
use Rattle.law_fresh_expansion.specs.Known.{IsKnown, HasKnown}
use Rattle.law_fresh_expansion.specs.States.{ExpressionHolds, KeywordsHold, BindingsHold, RecordsHold, StageHolds, FreshStateHolds}

-- no row and no leaf of what is kept on a stage has to do with a mark
pub record IsNewOn (m : Mark) (g : PlainStage) : Type 0 where
  pub rows : IsNew m g.frames
  pub cells : CellsHold (Lacks m) g.cells
  pub codes : CodesHold (Lacks m) g.codes
  pub globals : GlobalsHold (Lacks m) g.globals
  pub keywords : KeywordsHold (Lacks m) g.keywords

-- nor of a state
pub record IsNewIn (m : Mark) (s : State) : Type 0 where
  pub stage : IsNewOn m (stage_of s)
  pub bindings : BindingsHold (Lacks m) s.bindings

-- Where all marks are known, of a library that isn't among those that are.
pub record UsesTakeNewMarks : Type 0 where
  -- A use of a keyword transforms the form under the mark of the name that is next when the transformer is there. This mark is new then, on
  -- the stage and in the form.
  pub keywords : (libs : List LibName) (own : LibName) (place : Span) (records : List CompiledLibrary) (t : Tree) (l : Label)
      (e : Option PlainCore) (frame : Option FrameNo) (g h : PlainStage) (v : Value) → Among libs library.Core → (Among libs own → ⊥)
      → StageHolds own (IsKnown libs own) (HasKnown libs own) g.names.number g → RecordsHold (HasKnown libs own g.names.number) records
      → ExpressionHolds (HasKnown libs own g.names.number) e → TreeHolds (HasKnown libs own g.names.number) t
      → keyword_value place records l e g ≡ Ok (v, h)
      → (used place records t l e frame g ≡ transform_marked place v t frame (record { 0 = h.names })
      (record h { names = name_after h.names })) × (IsNewOn (record { 0 = h.names }) h × Untouched (record { 0 = h.names }) t)
  -- A use of a record form is read under the mark of the next name, which is new in the state and in the form.
  pub records : (libs : List LibName) (own : LibName) (place : Span) (t : Tree) (f : CoreForm) (frame : Option FrameNo) (s : State) → (Among libs own → ⊥)
      → FreshStateHolds own (IsKnown libs own) (HasKnown libs own) s.names.number s → TreeHolds (HasKnown libs own s.names.number) t
      → (use_record place t f frame s ≡ record_marked place t f frame (record { 0 = s.names }) (record s { names = name_after s.names }))
      × (IsNewIn (record { 0 = s.names }) s × Untouched (record { 0 = s.names }) t)
