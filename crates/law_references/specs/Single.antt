-- The relation has one answer.
use Rattle.std.specs.Prelude.{◌≡◌, ℕ, List}
use Rattle.base_data.specs.declared.span.Span.{Span}
use Rattle.stx_tree.specs.Tree.{Tree}
use Rattle.core_language.specs.Core.{PlainCore}
use Rattle.core_language.specs.declared.record.CompiledLibrary.{CompiledLibrary}
use Rattle.expand_standing.specs.State.{State}
use Rattle.law_references.specs.Changes.{between, placed}
use Rattle.law_references.specs.Expands.{Expands}
use Rattle.law_references.specs.Noted.{Noted}

-- Of a form in a state comes one core code, with one identifier for each of its references and one expression for each keyword that was bound in it, and one
-- state is left.
abbrev pub RelationHasOneAnswer : Type 0
RelationHasOneAnswer = (records : List CompiledLibrary) (place : Span) (level : ℕ) (t : Tree) (s u v : State) (c d : PlainCore) (x y : Noted)
    → Expands records (placed place level) t c (between s u x) → Expands records (placed place level) t d (between s v y) → (c ≡ d) × ((u ≡ v) × (x ≡ y))
