-- What comes into scope in an expression is out of scope after it.
use Rattle.std.specs.Prelude.{◌≡◌, ℕ, List, Ok}
use Rattle.base_data.specs.declared.span.Span.{Span}
use Rattle.stx_tree.specs.Tree.{Tree}
use Rattle.core_language.specs.Core.{PlainCore}
use Rattle.core_language.specs.declared.record.CompiledLibrary.{CompiledLibrary}
use Rattle.expand_standing.specs.State.{State}
use Rattle.expand_forms.specs.Expression.{inside}
use Rattle.expand_forms.specs.Site.{site_at}

-- in the same order, too
abbrev pub ScopeStays : Type 0
ScopeStays = (records : List CompiledLibrary) (room : ℕ) (place : Span) (level depth : ℕ) (t : Tree) (s u : State) (c : PlainCore)
    → (inside records room).form (site_at place level depth) t s ≡ Ok (c, u) → u.scope ≡ s.scope
