-- What an identifier becomes that is expanded.
use Rattle.std.specs.Prelude.{◌≡◌, ◌⊎◌, ℕ, List, Option, Some, Ok}
use Rattle.base_data.specs.declared.library.LibName.{LibName}
use Rattle.base_data.specs.declared.span.Span.{Span}
use Rattle.stx_tree.specs.Context.{LeafContext}
use Rattle.stx_tree.specs.Tree.{leaf}
use Rattle.stx_frames.specs.Rows.{Row}
use Rattle.core_language.specs.Core.{PlainCore}
use Rattle.core_language.specs.declared.record.CompiledLibrary.{CompiledLibrary}
use Rattle.expand_standing.specs.State.{State}
use Rattle.law_hygiene.specs.Binder.{Captures}
use Rattle.law_hygiene.specs.History.{Event}
use Rattle.expand_forms.specs.Expression.{inside}
use Rattle.expand_forms.specs.ExpandUses.{linked_code}
use Rattle.expand_forms.specs.Site.{site_at}
use Rattle.law_expand.specs.Named.{RefersTo, IsUse}
use Rattle.law_fresh_expansion.specs.Events.{HasKnownEvents}
use Rattle.base_data.specs.declared.name.Mark.{Mark}
use Rattle.law_references.specs.Captured.{IsHygienicReference}

module _ (s : State) (p : Option Span) (x : List ℕ) (k : LeafContext) where
  -- It refers to the label of the binder that captures it, as its history allows.
  pub record NamesItsBinder (ms : List Mark) (es : List Event) (c : PlainCore) : Type 0 where
    pub row : Row
    pub captures : Captures s.frames row (leaf p x k)
    pub refers : RefersTo s (Some row.label) c
    pub hygienic : IsHygienicReference s.frames row p x ms es

-- Each identifier that an expansion comes to, whatever form it lies in, becomes such a reference, or it is a use of a keyword.
abbrev pub ReferencesAreHygienic : Type 0
ReferencesAreHygienic = (libs : List LibName) (own : LibName) (n : ℕ) (records : List CompiledLibrary) (room : ℕ) (place : Span)
    (level depth : ℕ) (p : Option Span) (x : List ℕ) (k : LeafContext) (s u : State) (c : PlainCore)
    → (h : HasKnownEvents libs own n k) → (inside records room).form (site_at place level depth) (leaf p x k) s ≡ Ok (c, u)
    → (NamesItsBinder s p x k h.marks h.events c × (u ≡ linked_code (leaf p x k) c s)) ⊎ IsUse s (leaf p x k)
