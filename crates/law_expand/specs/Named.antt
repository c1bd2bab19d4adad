-- Each reference names the binder that its leaf stands for.
use Rattle.std.specs.Prelude.{◌≡◌, ℕ, ◌⊎◌, Bool, true, List, Option, None, Some, Ok}
use Rattle.base_data.specs.declared.name.FrameNo.{FrameNo}
use Rattle.base_data.specs.declared.name.Label.{Label}
use Rattle.base_data.specs.declared.op.Op.{Op}
use Rattle.base_data.specs.declared.span.Span.{Span}
use Rattle.stx_tree.specs.Changes.{stamp}
use Rattle.stx_tree.specs.Tree.{Tree}
use Rattle.stx_scope.specs.Stands.{stands}
use Rattle.core_language.specs.Core.{PlainCore, variable, primitive}
use Rattle.core_language.specs.declared.record.CompiledLibrary.{CompiledLibrary}
use Rattle.core_shapes.specs.Lists.{is_leaf}
use Rattle.expand_standing.specs.Binders.{bind_variable}
use Rattle.expand_standing.specs.Standing.{label_standing, standing_of}
use Rattle.expand_standing.specs.State.{State}
use Rattle.expand_standing.specs.declared.standing.Standing.TheVariants as standing
use Rattle.expand_heads.specs.Plan.{target_by}
use Rattle.expand_forms.specs.Expression.{inside}
use Rattle.expand_forms.specs.ExpandUses.{linked_code}
use Rattle.expand_forms.specs.Site.{site_at}
use Rattle.law_expand.specs.States.{IsOld}
use Rattle.law_expand.specs.Trees.{LeavesAre}

-- a reference to what an identifier stands for: to the variable of that label, or to a primitive
abbrev pub RefersTo : State → Option Label → PlainCore → Type 0
RefersTo s None c = ⊥
RefersTo s (Some l) c = (c ≡ variable l) ⊎ ((o : Op) × ((label_standing s l ≡ standing.Primitive o) × (c ≡ primitive o)))

-- a leaf that stands for a keyword is a use of it
abbrev pub IsUse : State → Tree → Type 0
IsUse s t = (l : Label) × (standing_of s t ≡ standing.Keyword l)

-- The core code of a leaf refers to what the leaf stands for, and the state gains its link alone, unless the leaf is a use of a keyword.
abbrev pub ReferencesNameBinders : Type 0
ReferencesNameBinders = (records : List CompiledLibrary) (room : ℕ) (place : Span) (level depth : ℕ) (t : Tree) (s u : State) (c : PlainCore) → is_leaf t ≡ true
    → (inside records room).form (site_at place level depth) t s ≡ Ok (c, u) → (RefersTo s (stands s.frames t) c × (u ≡ linked_code t c s)) ⊎ IsUse s t

-- An assignment assigns what its target stands for.
abbrev pub AssignmentsNameBinders : Type 0
AssignmentsNameBinders = (place : Span) (level : ℕ) (t id : Tree) (s u : State) (l : Label)
    → target_by place level t id (standing_of s id) s ≡ Ok (l, u) → stands s.frames id ≡ Some l

-- Where a binder's frame is stamped on its identifier, that stands for the label of the binder.
abbrev pub BindersAreFound : Type 0
BindersAreFound = (frame : FrameNo) (place : Span) (level : ℕ) (top : Bool) (id : Tree) (s u : State) (l : Label)
    → bind_variable frame place level top id s ≡ Ok (l, u) → stands u.frames (stamp frame id) ≡ Some l

-- What an identifier stands for, whose stamps name frames that were made, stays as it is while a form is expanded.
abbrev pub BindersStay : Type 0
BindersStay = (records : List CompiledLibrary) (room : ℕ) (place : Span) (level depth : ℕ) (t : Tree) (s u : State) (c : PlainCore)
    → (inside records room).form (site_at place level depth) t s ≡ Ok (c, u)
    → (id : Tree) → LeavesAre (IsOld s.names.library s) id → stands u.frames id ≡ stands s.frames id
