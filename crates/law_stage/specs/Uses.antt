-- What a use changes.
use Rattle.std.specs.Prelude.{◌≡◌, List, Option, Some, Ok}
use Rattle.base_data.specs.declared.name.FrameNo.{FrameNo}
use Rattle.base_data.specs.declared.name.Label.{Label}
use Rattle.base_data.specs.declared.span.Span.{Span}
use Rattle.stx_tree.specs.Tree.{Tree}
use Rattle.core_language.specs.Core.{PlainCore}
use Rattle.core_language.specs.declared.record.CompiledLibrary.{CompiledLibrary}
use Rattle.eval_value.specs.declared.value.Value.{Value}
use Rattle.eval_stage.specs.Stage.{PlainStage, keyword_at}
use Rattle.eval_stage.specs.Transformers.{keyword_value}
use Rattle.eval_stage.specs.Uses.{used}
use Rattle.eval_stage.specs.declared.keyword.Keyword.TheVariants as keyword

-- t differs from s in names and in the fuel that was spent alone
abbrev pub OnlyCounts : PlainStage → PlainStage → Type 0
OnlyCounts s t = t ≡ record s { names = t.names; spent = t.spent }

module _ (place : Span) (rs : List CompiledLibrary) where
  -- the stage on which the transformer is called, and after that nothing but the counts changes
  pub record CalledOn (l : Label) (e : Option PlainCore) (s new : PlainStage) : Type 0 where
    pub value : Value
    pub before : PlainStage
    pub asked : keyword_value place rs l e s ≡ Ok (value, before)
    pub counts : OnlyCounts before new

-- The cells of a call are dropped: after a use they are those with which the transformer was called.
abbrev pub UsesDropCells : Type 0
UsesDropCells = (place : Span) (rs : List CompiledLibrary) (form : Tree) (l : Label) (e : Option PlainCore) (frame : Option FrameNo)
    (s new : PlainStage) (t : Tree)
    → used place rs form l e frame s ≡ Ok (t, new) → CalledOn place rs l e s new

-- Where the transformer was kept, a use changes nothing but the counts.
abbrev pub KeptUsesOnlyCount : Type 0
KeptUsesOnlyCount = (place : Span) (rs : List CompiledLibrary) (form : Tree) (l : Label) (e x : Option PlainCore) (v : Value)
    (frame : Option FrameNo) (s new : PlainStage) (t : Tree)
    → keyword_at s.keywords l ≡ Some (keyword.Kept x v) → used place rs form l e frame s ≡ Ok (t, new) → OnlyCounts s new
