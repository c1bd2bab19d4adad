-- Shapes are the grammar.
use Rattle.std.specs.Prelude.{◌≡◌, [], Ok, Err}
use Rattle.base_data.specs.declared.fault.FaultKind.TheVariants as kind
use Rattle.base_data.specs.declared.span.Span.{Span}
use Rattle.stx_tree.specs.Tree.{Tree}
use Rattle.core_language.specs.declared.core_form.CoreForm.{CoreForm}
use Rattle.core_shapes.specs.At.{fault_at}
use Rattle.core_shapes.specs.Forms.{shape}
use Rattle.core_shapes.specs.declared.shape.Shape.{Shape}
use Rattle.law_shapes.specs.Grammar.{HasShape}

-- what is written by a case of the grammar has its shape
abbrev pub WrittenHaveShapes : Type 0
WrittenHaveShapes = (which : CoreForm) (t : Tree) (place : Span) (s : Shape) → HasShape which s t → shape which t place ≡ Ok s

-- what has a shape is written by its case
abbrev pub ShapesAreWritten : Type 0
ShapesAreWritten = (which : CoreForm) (t : Tree) (place : Span) (s : Shape) → shape which t place ≡ Ok s → HasShape which s t

-- no form is written in two ways
abbrev pub OneShape : Type 0
OneShape = (which : CoreForm) (t : Tree) (s r : Shape) → HasShape which s t → HasShape which r t → s ≡ r

-- what is written in none is at fault, at its place
abbrev pub OthersAreBad : Type 0
OthersAreBad = (which : CoreForm) (t : Tree) (place : Span) → ((s : Shape) → HasShape which s t → ⊥)
    → shape which t place ≡ Err (fault_at kind.BadForm t place [])
