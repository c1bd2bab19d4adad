-- What a form expands to doesn't depend on how many forms may nest in it, where these are enough.
use Rattle.std.specs.Prelude.{◌≡◌, ◌≤◌, ℕ, ◌+◌, List}
use Rattle.base_data.specs.declared.span.Span.{Span}
use Rattle.stx_tree.specs.Tree.{Tree}
use Rattle.core_language.specs.declared.record.CompiledLibrary.{CompiledLibrary}
use Rattle.core_shapes.specs.declared.shape.FormalIds.{FormalIds}
use Rattle.expand_standing.specs.State.{State}
use Rattle.expand_heads.specs.Depth.{most_round}
use Rattle.expand_heads.specs.declared.taken.BodyAt.{BodyAt}
use Rattle.expand_heads.specs.declared.taken.Taken.{Taken}
use Rattle.expand_forms.specs.Body.{body}
use Rattle.expand_forms.specs.Expression.{inside, full_room}
use Rattle.expand_forms.specs.Top.{top}
use Rattle.expand_forms.specs.declared.top.TopAt.{TopAt}
use Rattle.expand_forms.specs.Site.{site_at}
use Rattle.expand_forms.specs.Forms.{procedure_parts}

-- with so many core forms and applications round it, at most 600, a form has all the room that it needs
abbrev pub IsEnough : ℕ → ℕ → Type 0
IsEnough room depth = full_room ≤ room + depth

-- an expression
abbrev pub FormsNeedNoMore : Type 0
FormsNeedNoMore = (records : List CompiledLibrary) (room other : ℕ) (place : Span) (level depth : ℕ) (t : Tree) (s : State)
    → IsEnough room depth → IsEnough other depth
    → (inside records room).form (site_at place level depth) t s ≡ (inside records other).form (site_at place level depth) t s

-- a form of a body, behind those that were taken
abbrev pub ItemsNeedNoMore : Type 0
ItemsNeedNoMore = (records : List CompiledLibrary) (room other : ℕ) (at : BodyAt) (depth : ℕ) (done : Taken) (t : Tree) (s : State)
    → IsEnough room depth → IsEnough other depth
    → (inside records room).item at depth done t s ≡ (inside records other).item at depth done t s

-- the case of a procedure that a form at this depth defines; it stands one deeper
abbrev pub CasesNeedNoMore : Type 0
CasesNeedNoMore = (records : List CompiledLibrary) (room other : ℕ) (place : Span) (level depth : ℕ) (t : Tree) (ids : FormalIds)
    (forms : List Tree) (s : State) → depth ≤ most_round → IsEnough room depth → IsEnough other depth
    → (inside records room).procedure (site_at place level (depth + 1)) (procedure_parts t ids forms) s
    ≡ (inside records other).procedure (site_at place level (depth + 1)) (procedure_parts t ids forms) s

-- the body of a procedure or `letrec`
abbrev pub BodiesNeedNoMore : Type 0
BodiesNeedNoMore = (records : List CompiledLibrary) (room other : ℕ) (place : Span) (level depth : ℕ) (t : Tree) (forms : List Tree)
    (s : State) → IsEnough room depth → IsEnough other depth
    → body (inside records room) (site_at place level depth) t forms s ≡ body (inside records other) (site_at place level depth) t forms s

-- a library or program
abbrev pub TopsNeedNoMore : Type 0
TopsNeedNoMore = (records : List CompiledLibrary) (room other : ℕ) (at : TopAt) (exports : List (List ℕ × Tree)) (forms : List Tree)
    (s : State) → IsEnough room 0 → IsEnough other 0
    → top (inside records room) at exports forms s ≡ top (inside records other) at exports forms s
