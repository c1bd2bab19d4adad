-- Which leaves of what a use gives it introduced.
use Rattle.std.specs.Prelude.{◌≡◌, ◌⊎◌, List, Option, Ok, IsTrue}
use Rattle.base_data.specs.Elements.{Among}
use Rattle.base_data.specs.declared.library.LibName.{LibName}
use Rattle.base_data.specs.declared.library.LibName.TheVariants as library
use Rattle.base_data.specs.declared.name.FrameNo.{FrameNo}
use Rattle.base_data.specs.declared.name.Mark.{Mark}
use Rattle.base_data.specs.declared.span.Span.{Span}
use Rattle.stx_tree.specs.Context.{LeafContext}
use Rattle.stx_tree.specs.Leaves.{contexts}
use Rattle.stx_tree.specs.Marks.{is_first}
use Rattle.stx_tree.specs.Tree.{Tree}
use Rattle.core_language.specs.declared.core_form.CoreForm.{CoreForm}
use Rattle.eval_stage.specs.Stage.{PlainStage, name_after}
use Rattle.eval_stage.specs.Uses.{transform_marked}
use Rattle.expand_standing.specs.RecordUses.{record_marked}
use Rattle.expand_standing.specs.State.{State}
use Rattle.eval_value.specs.declared.value.Value.{Value}
use Rattle.law_fresh.specs.Leaves.{TreeHolds, ValueHolds}
use Rattle.law_fresh_expansion.specs.Known.{IsKnown, HasKnown, IsNewAmong}
use Rattle.law_fresh_expansion.specs.States.{StageHolds, FreshStateHolds}

-- it is a leaf of the form as it was, or the use of m introduced it last
abbrev pub IsOfFormOrUse : Mark → Tree → LeafContext → Type 0
IsOfFormOrUse m t c = Among (contexts t) c ⊎ IsTrue (is_first m c.marks)

-- So it is of each leaf that a use gives, of a keyword whose transformer is there and of a record form. The mark is the next name.
pub record UsesIntroduceTheRest : Type 0 where
  pub keywords : (libs : List LibName) (own : LibName) (place : Span) (v : Value) (t : Tree) (frame : Option FrameNo) (g h : PlainStage)
      (o : Tree) → IsNewAmong libs own
      → StageHolds own (IsKnown libs own) (HasKnown libs own) g.names.number g → ValueHolds (HasKnown libs own g.names.number) v
      → TreeHolds (HasKnown libs own g.names.number) t
      → transform_marked place v t frame (record { 0 = g.names }) (record g { names = name_after g.names }) ≡ Ok (o, h)
      → TreeHolds (IsOfFormOrUse (record { 0 = g.names }) t) o
  pub records : (libs : List LibName) (own : LibName) (place : Span) (t : Tree) (f : CoreForm) (frame : Option FrameNo) (s u : State)
      (o : Tree) → Among libs library.Core → IsNewAmong libs own
      → FreshStateHolds own (IsKnown libs own) (HasKnown libs own) s.names.number s → TreeHolds (HasKnown libs own s.names.number) t
      → record_marked place t f frame (record { 0 = s.names }) (record s { names = name_after s.names }) ≡ Ok (o, u)
      → TreeHolds (IsOfFormOrUse (record { 0 = s.names }) t) o
