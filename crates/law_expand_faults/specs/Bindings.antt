-- Second binders, and exports of what isn't bound (R6RS 5.2, 7.1 and 11.2).
use Rattle.std.specs.Prelude.{◌≡◌, ℕ, Bool, true, false, List, [], ◌∷◌, None, Some, Err}
use Rattle.base_data.specs.declared.fault.Fault.{Fault}
use Rattle.base_data.specs.declared.fault.FaultKind.TheVariants as kind
use Rattle.base_data.specs.declared.name.FrameNo.{FrameNo}
use Rattle.base_data.specs.declared.name.Label.{Label}
use Rattle.base_data.specs.declared.name.Mark.{Mark}
use Rattle.base_data.specs.declared.span.Span.{Span}
use Rattle.stx_tree.specs.Changes.{stamp}
use Rattle.stx_tree.specs.Leaves.{marks_of}
use Rattle.stx_tree.specs.Tree.{Tree}
use Rattle.stx_frames.specs.Rows.{Row}
use Rattle.stx_frames.specs.Scope.{rows_at}
use Rattle.stx_scope.specs.Stands.{symbol_of, stands}
use Rattle.core_shapes.specs.Lists.{is_leaf}
use Rattle.core_shapes.specs.declared.shape.BindingSpec.{BindingSpec}
use Rattle.expand_standing.specs.Binders.{bind_variable}
use Rattle.expand_standing.specs.State.{State}
use Rattle.expand_standing.specs.Uses.{bind_keyword}
use Rattle.expand_forms.specs.Top.{exports}
use Rattle.expand_forms.specs.declared.top.TopAt.{TopAt}
use Rattle.law_expand_faults.specs.Told.{TellsFault}

-- some row binds the symbol under the marks
pub data IsBoundName (x : List ℕ) (ms : List Mark) : List Row → Type 0 where
  by_this_row : {r : Row} {rs : List Row} → r.symbol ≡ x → r.marks ≡ ms → IsBoundName x ms (r ∷ rs)
  by_another_row : {r : Row} {rs : List Row} → IsBoundName x ms rs → IsBoundName x ms (r ∷ rs)

-- A frame binds an identifier once. The second binder is the fault, and what is no identifier is no binder.
pub data IsBadBinder (s : State) (frame : FrameNo) (id : Tree) (place : Span) (f : Fault) : Type 0 where
  second : is_leaf id ≡ true → IsBoundName (symbol_of id) (marks_of id) (rows_at frame s.frames)
      → TellsFault kind.Duplicate id place (symbol_of id ∷ []) f → IsBadBinder s frame id place f
  no_identifier : is_leaf id ≡ false → TellsFault kind.BadForm id place [] f → IsBadBinder s frame id place f

-- The first export, in order, whose identifier stands for nothing in the library.
pub data IsBadExport (s : State) (at : TopAt) (f : Fault) : List (List ℕ × Tree) → Type 0 where
  this_export : {external : List ℕ} {id : Tree} {es : List (List ℕ × Tree)} → stands s.frames (stamp at.frame id) ≡ None
      → TellsFault kind.ExportUnbound id at.place (symbol_of id ∷ []) f → IsBadExport s at f ((external, id) ∷ es)
  another_export : {external : List ℕ} {id : Tree} {l : Label} {es : List (List ℕ × Tree)} → stands s.frames (stamp at.frame id) ≡ Some l
      → IsBadExport s at f es → IsBadExport s at f ((external, id) ∷ es)

-- Binders and exports are at fault exactly so.
pub record BindingsAreTold : Type 0 where
  pub variable_binders : (frame : FrameNo) (place : Span) (level : ℕ) (top : Bool) (id : Tree) (s : State) (f : Fault)
      → IsBadBinder s frame id place f → bind_variable frame place level top id s ≡ Err f
  pub variable_binders_only : (frame : FrameNo) (place : Span) (level : ℕ) (top : Bool) (id : Tree) (s : State) (f : Fault)
      → bind_variable frame place level top id s ≡ Err f → IsBadBinder s frame id place f
  pub keyword_binders : (frame : FrameNo) (place : Span) (level : ℕ) (b : BindingSpec) (s : State) (f : Fault)
      → IsBadBinder s frame b.id place f → bind_keyword frame place level b s ≡ Err f
  pub keyword_binders_only : (frame : FrameNo) (place : Span) (level : ℕ) (b : BindingSpec) (s : State) (f : Fault)
      → bind_keyword frame place level b s ≡ Err f → IsBadBinder s frame b.id place f
  pub unbound_exports : (at : TopAt) (es : List (List ℕ × Tree)) (s : State) (f : Fault) → IsBadExport s at f es → exports at es s ≡ Err f
  pub unbound_exports_only : (at : TopAt) (es : List (List ℕ × Tree)) (s : State) (f : Fault) → exports at es s ≡ Err f → IsBadExport s at f es
