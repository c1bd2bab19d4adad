-- Expansion binds in frames of its library alone, and never twice.
use Rattle.std.specs.Prelude.{◌≡◌, ℕ, List, [], None, Ok}
use Rattle.base_data.specs.Elements.{Once}
use Rattle.base_data.specs.declared.imported_name.ImportedName.{ImportedName}
use Rattle.base_data.specs.declared.library.LibName.{LibName}
use Rattle.base_data.specs.declared.library.LibName.TheVariants as library
use Rattle.base_data.specs.declared.span.Span.{Span}
use Rattle.stx_tree.specs.Tree.{Tree}
use Rattle.core_language.specs.Bindings.{bound_to}
use Rattle.core_language.specs.Core.{PlainCore}
use Rattle.core_language.specs.declared.record.CompiledLibrary.{CompiledLibrary}
use Rattle.law_core.specs.Follows.{bound_labels}
use Rattle.eval_code.specs.Codes.{Codes}
use Rattle.expand_forms.specs.Expanding.{ready, library_record}
use Rattle.expand_forms.specs.Expression.{inside}
use Rattle.expand_forms.specs.Site.{site_at}
use Rattle.expand_forms.specs.declared.top.LibraryBody.{LibraryBody}
use Rattle.law_expand.specs.Ready.{IsReady}
use Rattle.law_expand.specs.States.{IsNumbered}
use Rattle.law_imports.specs.Algebra.{IsOnce}
use Rattle.expand_standing.specs.Start.{started}
use Rattle.expand_standing.specs.State.{State}
use Rattle.law_run.specs.Bound.{AreBound, BindsOwn}

-- whatever form is expanded, and in whatever state: the frames of other libraries stay as they are
abbrev pub OwnFramesAreBound : Type 0
OwnFramesAreBound = (records : List CompiledLibrary) (room : ℕ) (place : Span) (level depth : ℕ) (t : Tree) (s u : State) (c : PlainCore)
    → (inside records room).form (site_at place level depth) t s ≡ Ok (c, u) → BindsOwn s.names.library s.frames u.frames

-- Where the library's labels that are bound were made before its next name, so they are after any form, and the next name is of no label
-- that is bound.
abbrev pub NewLabelsAreUnbound : Type 0
NewLabelsAreUnbound = (records : List CompiledLibrary) (room : ℕ) (place : Span) (level depth : ℕ) (t : Tree) (s u : State) (c : PlainCore)
    → IsNumbered s.names.library s → (inside records room).form (site_at place level depth) t s ≡ Ok (c, u)
    → IsNumbered s.names.library u × (bound_to u.bindings (record { 0 = u.names }) ≡ None)

-- so it is where the expansion of a library begins
abbrev pub StartsAreNumbered : Type 0
StartsAreNumbered = (own : LibName) (records : List CompiledLibrary) (imports : List ImportedName) (codes : Codes)
    → IsReady own records → IsNumbered own (started own records imports codes)

-- So a record that expansion gives binds no label twice, and where no name is imported twice, no two of its rows have one frame,
-- symbol and marks. (The names of the implementation itself are expanded from no library.)
pub record IsOnceOver (r : CompiledLibrary) : Type 0 where
  pub rows : AreBound [] r.frames
  pub labels : Once (bound_labels r)

abbrev pub RecordsAreOnceOver : Type 0
RecordsAreOnceOver = (own : LibName) (records : List CompiledLibrary) (imports : List ImportedName) (body : LibraryBody) (codes : Codes) (r : CompiledLibrary)
    → IsReady own records → (own ≡ library.Core → ⊥) → IsOnce imports
    → library_record (ready own records imports codes) records body ≡ Ok r → IsOnceOver r
