-- The parts of a form that a shape gives have the leaves of the form.
use Rattle.std.proofs.Common.{List}
use Rattle.base_data.specs.Elements.{Each}
use Rattle.base_data.specs.declared.span.Span.{Span}
use Rattle.stx_tree.specs.Context.{LeafContext}
use Rattle.stx_tree.specs.Tree.{Tree}
use Rattle.core_language.specs.declared.core_form.CoreForm.{CoreForm}
use Rattle.core_shapes.specs.Forms.{shape}
use Rattle.core_shapes.specs.Lists.{proper_elements}
use Rattle.core_shapes.specs.declared.shape.BindingSpec.{BindingSpec}
use Rattle.core_shapes.specs.declared.shape.FormalIds.{FormalIds}
use Rattle.core_shapes.specs.declared.shape.LambdaCase.{LambdaCase}
use Rattle.core_shapes.specs.declared.shape.PatternCase.{PatternCase}
use Rattle.core_shapes.specs.declared.shape.Shape.{Shape}
use Rattle.law_invariant_expansion.proofs.Shapes as shapes
use Rattle.law_fresh.specs.Leaves.{OptionHolds, TreeHolds, leaves}
use Rattle.law_fresh.proofs.Closed.{leaves-closed}
use Rattle.law_fresh.proofs.Trees.{OkHolds}
pub use Rattle.law_invariant_expansion.proofs.Shapes.{then-holds, ok-if, some-holds, if-holds, all-of-holds}

module _ (P : LeafContext → Type 0) where
  abbrev pub FormalsHold : FormalIds → Type 0
  FormalsHold = shapes.FormalsHold (leaves P) (leaves-closed P)

  abbrev pub SpecHolds : BindingSpec → Type 0
  SpecHolds = shapes.SpecHolds (leaves P) (leaves-closed P)

  abbrev pub LambdaHolds : LambdaCase → Type 0
  LambdaHolds = shapes.LambdaHolds (leaves P) (leaves-closed P)

  abbrev pub PatternCaseHolds : PatternCase → Type 0
  PatternCaseHolds = shapes.PatternCaseHolds (leaves P) (leaves-closed P)

  abbrev pub ShapeHolds : Shape → Type 0
  ShapeHolds = shapes.ShapeHolds (leaves P) (leaves-closed P)

  pub proper-holds : (t : Tree) → TreeHolds P t → OptionHolds (λ (ts : List Tree). Each (TreeHolds P) ts) (proper_elements t)
  proper-holds t h = shapes.proper-holds (leaves P) (leaves-closed P) t h

  pub shape-holds : (which : CoreForm) (t : Tree) (place : Span) → TreeHolds P t → OkHolds ShapeHolds (shape which t place)
  shape-holds which t place h = shapes.shape-holds (leaves P) (leaves-closed P) which t place h
