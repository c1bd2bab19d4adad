-- Where a form is begun inside another, the state is whole, also where the other is at fault later.
use Rattle.std.specs.Prelude.{◌≡◌, ◌<◌, ℕ, Bool, true, List, [], ◌∷◌, ◌&&◌, Err, if◌then◌else◌}
use Rattle.base_data.specs.Elements.{Each}
use Rattle.base_data.specs.Same.{same_library}
use Rattle.base_data.specs.declared.library.LibName.{LibName}
use Rattle.base_data.specs.declared.name.CodeNo.{CodeNo}
use Rattle.base_data.specs.declared.name.Label.{Label}
use Rattle.base_data.specs.declared.span.Span.{Span}
use Rattle.stx_tree.specs.Tree.{Tree}
use Rattle.core_language.specs.Core.{PlainCore}
use Rattle.core_language.specs.declared.record.CompiledLibrary.{CompiledLibrary}
use Rattle.expand_forms.specs.Body.{item}
use Rattle.expand_forms.specs.Expression.{form_at, lambda_case, inside}
use Rattle.expand_forms.specs.Inside.{Inside}
use Rattle.expand_forms.specs.Top.{top}
use Rattle.expand_forms.specs.declared.top.TopAt.{TopAt}
use Rattle.expand_forms.specs.Forms.{procedure_parts}
use Rattle.expand_forms.specs.Site.{site_at}
use Rattle.law_expand.specs.Kept.{MakesName, IsKeptWith}
use Rattle.law_expand.specs.States.{IsOwn}
use Rattle.expand_heads.specs.Items.{is_top}
use Rattle.expand_heads.specs.declared.taken.BodyAt.{BodyAt}
use Rattle.expand_heads.specs.declared.taken.Taken.{Taken}
use Rattle.expand_heads.specs.declared.taken.Waiting.{Waiting}
use Rattle.expand_heads.specs.declared.taken.Waits.{Waits}
use Rattle.expand_heads.specs.declared.taken.Waits.TheVariants as waits
use Rattle.core_shapes.specs.declared.shape.FormalIds.{FormalIds}
use Rattle.eval_stage.specs.Stage.{stuck}
use Rattle.expand_standing.specs.State.{State, Does}
use Rattle.law_steady.specs.States.{IsWholeState}
use Rattle.law_run.specs.Transformers.{StaysWhole}

-- What is done where the state passes a test. Elsewhere there is the fault of what got stuck: where there is another one, or none, no such state was met.
abbrev pub stuck_unless : {A : Type 0} → (State → Bool) → Span → Does A → Does A
stuck_unless test place m s = if test s then m s else Err (stuck place)

-- What is done inside forms, where each state is tested in which it begins, and of a form of a body also, whether its frame is of the library.
abbrev pub with_entry_test : LibName → (State → Bool) → Inside → Inside
with_entry_test own test go = record {
  earlier = go.earlier;
  form = λ site t. stuck_unless test site.place (go.form site t);
  procedure = λ site p. stuck_unless test site.place (go.procedure site p);
  item = λ at depth done t. stuck_unless (λ s. test s && same_library at.frame.0.library own) at.place (go.item at depth done t);
}

module _ (own : LibName) (texts : List CodeNo) (records : List CompiledLibrary) where
  abbrev pub PassesWhole : (State → Bool) → Type 0
  PassesWhole test = (s : State) → IsWholeState own texts records s → test s ≡ true

  -- what is done with such a test of all that is begun inside it, from a whole state on
  abbrev pub TestsWhole : {A : Type 0} → (Inside → Does A) → Type 0
  TestsWhole m = (test : State → Bool) (room : ℕ) (s : State) → PassesWhole test → IsWholeState own texts records s
      → StaysWhole own texts records (m (with_entry_test own test (inside records room)) s)

-- Whatever form is expanded in a whole state, or procedure that a definition binds: each form, procedure and form of a body that is begun directly
-- inside it, begins in a state that passes any test that whole states pass, and a form of a body binds in a frame of the library.
abbrev pub FormsBeginWhole : Type 0
FormsBeginWhole = (own : LibName) (texts : List CodeNo) (records : List CompiledLibrary) (place : Span) (level depth : ℕ) (t : Tree)
    → TestsWhole own texts records (λ go. form_at go (site_at place level depth) t)

abbrev pub ProceduresBeginWhole : Type 0
ProceduresBeginWhole = (own : LibName) (texts : List CodeNo) (records : List CompiledLibrary) (place : Span) (level depth : ℕ) (t : Tree)
    (ids : FormalIds) (forms : List Tree)
    → TestsWhole own texts records (λ go. lambda_case go (site_at place level depth) (procedure_parts t ids forms))

-- so it is inside the body of a library or program
abbrev pub BodiesBeginWhole : Type 0
BodiesBeginWhole = (own : LibName) (texts : List CodeNo) (records : List CompiledLibrary) (at : TopAt) (exports : List (List ℕ × Tree)) (forms : List Tree)
    → at.frame.0.library ≡ own → TestsWhole own texts records (λ go. top go at exports forms)

-- the labels of the variables of a body that wait for their values
abbrev pub with_waiting : Waits → List Label → List Label
with_waiting (waits.Variable l value) ls = l ∷ ls
with_waiting (waits.Procedure l t ids forms) ls = l ∷ ls
with_waiting (waits.Expression t) ls = ls

abbrev pub waiting_labels : List Waiting → List Label
waiting_labels [] = []
waiting_labels (w ∷ ws) = with_waiting w.what (waiting_labels ws)

-- a label that was made and is named in no expression of a keyword of the library that is kept
pub record IsSpared (own : LibName) (s : State) (l : Label) : Type 0 where
  pub made : l.0.number < s.names.number
  pub unnamed : (k : Label) (c : PlainCore) → IsOwn own k.0 → IsKeptWith s.keywords k c → MakesName c l.0 → ⊥

-- And so it is inside a form of a body, of which so much was taken before.
abbrev pub ItemsBeginWhole : Type 0
ItemsBeginWhole = (own : LibName) (texts : List CodeNo) (records : List CompiledLibrary) (at : BodyAt) (depth : ℕ) (done : Taken)
    (t : Tree) (test : State → Bool) (room : ℕ) (s : State)
    → at.frame.0.library ≡ own → (is_top at.kind ≡ true → at.level ≡ 0) → Each (IsSpared own s) (waiting_labels done.waiting)
    → PassesWhole own texts records test → IsWholeState own texts records s
    → StaysWhole own texts records (item (with_entry_test own test (inside records room)) at depth done t s)
