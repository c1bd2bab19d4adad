-- The references of a whole expansion.
use Rattle.std.specs.Prelude.{◌≡◌, ◌⊎◌, ℕ, List, Option, Some, Ok}
use Rattle.base_data.specs.Elements.{Among, Each}
use Rattle.base_data.specs.declared.library.LibName.{LibName}
use Rattle.base_data.specs.declared.library.LibName.TheVariants as library
use Rattle.base_data.specs.declared.name.Label.{Label}
use Rattle.base_data.specs.declared.span.Span.{Span}
use Rattle.stx_tree.specs.Context.{LeafContext}
use Rattle.stx_tree.specs.Tree as tree
use Rattle.stx_tree.specs.Tree.{Tree}
use Rattle.stx_frames.specs.Rows.{Row}
use Rattle.stx_scope.specs.Stands.{stands}
use Rattle.core_language.specs.Bindings.{bound_to}
use Rattle.core_language.specs.Core.{PlainCore, instance}
use Rattle.core_language.specs.References.{mentions}
use Rattle.core_language.specs.Template as template
use Rattle.core_language.specs.declared.binding.Binding.TheVariants as binding
use Rattle.core_language.specs.declared.record.CompiledLibrary.{CompiledLibrary}
use Rattle.eval_stage.specs.Stage.{expression_of}
use Rattle.expand_standing.specs.State.{State, stage_of}
use Rattle.law_hygiene.specs.Binder.{Captures}
use Rattle.expand_forms.specs.Expression.{inside}
use Rattle.expand_forms.specs.Site.{site_at}
use Rattle.law_expand.specs.Named.{RefersTo}
use Rattle.law_fresh.specs.Leaves.{TreeHolds}
use Rattle.law_fresh_expansion.specs.Events.{HasKnownEvents}
use Rattle.law_fresh_expansion.specs.Known.{IsKnown, IsNewAmong}
use Rattle.law_fresh_expansion.specs.States.{RecordsHold, FreshStateHolds}
use Rattle.law_references.specs.Captured.{IsHygienicReference}
use Rattle.law_references.specs.Changes.{between, placed}
use Rattle.law_references.specs.Expands.{Expands}
use Rattle.law_references.specs.Namings.{namings}
use Rattle.law_references.specs.Noted.{Reference, KeywordExpression, Noted, mentioned, named, IsExpression}

module _ (libs : List LibName) (own : LibName) where
  -- An identifier stands for the label of the binder that captures it, as its history allows, which it had before this name was taken.
  pub record IsCaptured (n : ℕ) (u : State) (t : Tree) (l : Label) : Type 0 where
    pub span : Option Span
    pub symbol : List ℕ
    pub context : LeafContext
    pub leaf : t ≡ tree.leaf span symbol context
    pub history : HasKnownEvents libs own n context
    pub now : stands u.frames t ≡ Some l
    pub row : Row
    pub captures : Captures u.frames row t
    pub binder : row.label ≡ l
    pub hygienic : IsHygienicReference u.frames row span symbol history.marks history.events

-- the template that has no more than this pattern variable
abbrev pub IsOnlyVariable : State → Label → PlainCore → Type 0
IsOnlyVariable s l c = (level : ℕ) × ((depth : ℕ) × ((place : Span)
    × ((bound_to s.bindings l ≡ Some (binding.PatternVariable level depth)) × (c ≡ instance (template.variable l depth) place))))

-- A reference, or a pattern variable of a template, names what its identifier stood for when it was taken, and stands for in this later state.
pub record IsRightReference (libs : List LibName) (own : LibName) (u : State) (r : Reference) : Type 0 where
  pub code : RefersTo r.state (Some r.label) r.code ⊎ IsOnlyVariable r.state r.label r.code
  pub stood : stands r.state.frames r.leaf ≡ Some r.label
  pub captured : IsCaptured libs own r.state.names.number u r.leaf r.label

-- The code of a keyword's expression names, place by place, what the identifiers stood for that became these references, when they were taken and to the
-- end of the expression.
pub record IsRightExpression (libs : List LibName) (own : LibName) (e : KeywordExpression) : Type 0 where
  pub all : namings e.code ≡ named e.references
  pub mentions : mentions e.code ≡ mentioned e.references
  pub right : Each (IsRightReference libs own e.state) e.references

-- What is kept of keywords in a state was kept in the one before, or is one of these expressions.
abbrev pub KeepsOnly : List KeywordExpression → State → State → Type 0
KeepsOnly es s u = (l : Label) (c : PlainCore) → expression_of l (stage_of u) ≡ Some c → (expression_of l (stage_of s) ≡ Some c) ⊎ IsExpression es l c

module _ (libs : List LibName) (own : LibName) where
  -- The core code of a form names, place by place, what the identifiers stand for that became these references: those variables it refers to or assigns,
  -- and those pattern variables its templates have. So do the expressions of the keywords that were bound in it, and these are all that came to be kept.
  pub record Tells (c : PlainCore) (s u : State) (x : Noted) : Type 0 where
    pub all : namings c ≡ named x.references
    pub mentions : mentions c ≡ mentioned x.references
    pub right : Each (IsRightReference libs own u) x.references
    pub expressions : Each (IsRightExpression libs own) x.expressions
    pub kept : KeepsOnly x.expressions s u

-- So it is of each form that the expansion of a new library comes to.
abbrev pub FormsAreHygienic : Type 0
FormsAreHygienic = (libs : List LibName) (own : LibName) (records : List CompiledLibrary) (room : ℕ) (place : Span) (level depth : ℕ)
    (t : Tree) (s u : State) (c : PlainCore) → Among libs library.Core → IsNewAmong libs own
    → FreshStateHolds own (IsKnown libs own) (HasKnownEvents libs own) s.names.number s
    → RecordsHold (HasKnownEvents libs own s.names.number) records → TreeHolds (HasKnownEvents libs own s.names.number) t
    → (inside records room).form (site_at place level depth) t s ≡ Ok (c, u)
    → (x : Noted) × (Expands records (placed place level) t c (between s u x) × Tells libs own c s u x)
