-- What identifiers stand for stays.
use Rattle.std.specs.Prelude.{◌≡◌, ◌⊎◌, ℕ, true, List, Ok}
use Rattle.base_data.specs.declared.library.LibName.{LibName}
use Rattle.base_data.specs.declared.span.Span.{Span}
use Rattle.stx_tree.specs.Tree.{Tree}
use Rattle.stx_scope.specs.Stands.{stands}
use Rattle.core_language.specs.Core.{PlainCore}
use Rattle.core_language.specs.declared.record.CompiledLibrary.{CompiledLibrary}
use Rattle.core_shapes.specs.Lists.{is_leaf}
use Rattle.expand_standing.specs.State.{State}
use Rattle.expand_forms.specs.Expression.{inside}
use Rattle.expand_forms.specs.ExpandUses.{linked_code}
use Rattle.expand_forms.specs.Site.{site_at}
use Rattle.law_expand.specs.Named.{RefersTo, IsUse}
use Rattle.law_fresh.specs.Leaves.{TreeHolds}
use Rattle.law_fresh_expansion.specs.Known.{IsKnown, HasKnown, IsNewAmong}
use Rattle.law_fresh_expansion.specs.States.{FreshStateHolds}

-- In a state with known marks and frames, as each is that an expansion comes to, what an identifier with such stands for stays as it is while a
-- form is expanded.
abbrev pub IdentifiersStay : Type 0
IdentifiersStay = (libs : List LibName) (own : LibName) (records : List CompiledLibrary) (room : ℕ) (place : Span) (level depth : ℕ)
    (t : Tree) (s u : State) (c : PlainCore) → IsNewAmong libs own
    → FreshStateHolds own (IsKnown libs own) (HasKnown libs own) s.names.number s → (inside records room).form (site_at place level depth) t s ≡ Ok (c, u)
    → (id : Tree) → TreeHolds (HasKnown libs own s.names.number) id → stands u.frames id ≡ stands s.frames id

-- So where it is expanded after that form, and no use of a keyword, it becomes a reference to what it stood for before that form.
abbrev pub ReferencesStay : Type 0
ReferencesStay = (libs : List LibName) (own : LibName) (records : List CompiledLibrary) (room : ℕ) (place : Span) (level depth : ℕ)
    (t : Tree) (s u : State) (c : PlainCore) → IsNewAmong libs own
    → FreshStateHolds own (IsKnown libs own) (HasKnown libs own) s.names.number s → (inside records room).form (site_at place level depth) t s ≡ Ok (c, u)
    → (id : Tree) → TreeHolds (HasKnown libs own s.names.number) id → is_leaf id ≡ true
    → (more : ℕ) (spot : Span) (high deep : ℕ) (v : State) (d : PlainCore)
    → (inside records more).form (site_at spot high deep) id u ≡ Ok (d, v)
    → (RefersTo u (stands s.frames id) d × (v ≡ linked_code id d u)) ⊎ IsUse u id
