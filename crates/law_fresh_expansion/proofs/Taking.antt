-- The mark that a use takes is new.
use Rattle.std.proofs.Common.{◌≡◌, ℕ, List, Option, Result, Ok, refl, ap, subst}
use Rattle.base_data.specs.Act.{after}
use Rattle.base_data.specs.Elements.{Among}
use Rattle.base_data.specs.declared.fault.Fault.{Fault}
use Rattle.base_data.specs.declared.library.LibName.{LibName}
use Rattle.base_data.specs.declared.library.LibName.TheVariants as library
use Rattle.base_data.specs.declared.name.FrameNo.{FrameNo}
use Rattle.base_data.specs.declared.name.Label.{Label}
use Rattle.base_data.specs.declared.name.Mark.{Mark}
use Rattle.base_data.specs.declared.span.Span.{Span}
use Rattle.stx_tree.specs.Context.{LeafContext}
use Rattle.stx_tree.specs.Tree.{Tree}
use Rattle.core_language.specs.Core.{PlainCore}
use Rattle.core_language.specs.declared.core_form.CoreForm.{CoreForm}
use Rattle.core_language.specs.declared.record.CompiledLibrary.{CompiledLibrary}
use Rattle.law_hygiene.specs.Marked.{Untouched}
use Rattle.eval_stage.specs.Stage.{PlainStage, fresh_mark, name_after}
use Rattle.eval_stage.specs.Transformers.{keyword_value}
use Rattle.eval_stage.specs.Uses.{used, transform_marked}
use Rattle.expand_standing.specs.RecordUses.{record_marked, use_record}
use Rattle.expand_standing.specs.State.{State, fresh}
use Rattle.eval_value.specs.declared.value.Value.{Value}
use Rattle.law_fresh.specs.Leaves.{TreeHolds}
use Rattle.law_fresh.proofs.Wider.{tree_wider}
use Rattle.law_fresh_expansion.specs.Known.{IsKnown, IsKnownFrame, HasKnown}
use Rattle.law_fresh_expansion.specs.States.{ExpressionHolds, RecordsHold, StageHolds, FreshStateHolds}
use Rattle.law_fresh_expansion.specs.Uses.{IsNewOn, IsNewIn, UsesTakeNewMarks}
use Rattle.law_fresh_expansion.proofs.Changing.{rise}
use Rattle.law_fresh_expansion.proofs.Knowing.{lives-known, new-tree, new-on, new-in-state}
use Rattle.law_fresh_expansion.proofs.Stages.{GaveStage, IsValue, value-holds}

module _ (libs : List LibName) (own : LibName) where
  abbrev K : ℕ → Mark → Type 0
  K n m = IsKnown libs own n m

  abbrev J : ℕ → FrameNo → Type 0
  J n f = IsKnownFrame libs own n f

  abbrev P : ℕ → LeafContext → Type 0
  P n c = HasKnown libs own n c

  module _ (core : Among libs library.Core) (new : Among libs own → ⊥) where
    keyword-new : (place : Span) (records : List CompiledLibrary) (t : Tree) (l : Label) (e : Option PlainCore) (frame : Option FrameNo) (g h : PlainStage) (v : Value)
        → StageHolds own K P g.names.number g → RecordsHold (P g.names.number) records → ExpressionHolds (P g.names.number) e → TreeHolds (P g.names.number) t → keyword_value place records l e g ≡ Ok (v, h)
        → (used place records t l e frame g ≡ transform_marked place v t frame (record { 0 = h.names }) (record h { names = name_after h.names })) × (IsNewOn (record { 0 = h.names }) h × Untouched (record { 0 = h.names }) t)
    unfolding used
    keyword-new place records t l e frame g h v holds rs ex tr is =
        let given = subst (GaveStage own K J P (lives-known libs own core) (IsValue own K J P (lives-known libs own core)) g.names.number) is (value-holds own K J P (lives-known libs own core) place records l e g.names.number g holds rs ex) in (
          ap (λ (r : Result (Value × PlainStage) Fault). after r (λ v t'. after (fresh_mark t') (transform_marked place v t frame))) is,
          (new-on libs own new g.names.number h given.0, new-tree libs own new h.names given.0.library t (tree_wider (P g.names.number) (P h.names.number) (rise own K J P (lives-known libs own core) g.names.number h.names.number given.0.up) t tr)),
        )

  record-new : (new : Among libs own → ⊥) (place : Span) (t : Tree) (f : CoreForm) (frame : Option FrameNo) (s : State) → FreshStateHolds own K P s.names.number s → TreeHolds (P s.names.number) t
      → (use_record place t f frame s ≡ record_marked place t f frame (record { 0 = s.names }) (record s { names = name_after s.names })) × (IsNewIn (record { 0 = s.names }) s × Untouched (record { 0 = s.names }) t)
  unfolding use_record fresh
  record-new new place t f frame s holds tr = (refl, (new-in-state libs own new s.names.number s holds, new-tree libs own new s.names holds.stage.library t tr))

pub uses-new : UsesTakeNewMarks
uses-new = record {
  keywords = λ libs own place records t l e frame g h v core new holds rs ex tr is. keyword-new libs own core new place records t l e frame g h v holds rs ex tr is;
  records = λ libs own place t f frame s new holds tr. record-new libs own new place t f frame s holds tr;
}
