-- What is asked of the records of libraries, and of a program's record, before their text is made.
use Rattle.std.specs.Prelude.{◌≡◌, List, [], ◌∷◌, ◌++◌}
use Rattle.std.specs.List.{flat_map}
use Rattle.base_data.specs.Elements.{Each, Among, Once}
use Rattle.core_language.specs.declared.record.CompiledLibrary.{CompiledLibrary}
use Rattle.law_core.specs.Templates.{TemplatesSuit}
use Rattle.law_core.specs.Records.{defined, run_binders, LinesClosed}
use Rattle.law_core.specs.Follows.{names_of, bound_labels, line_cores, IsOwn}
use Rattle.expand_forms.specs.Top.{refs_of}
use Rattle.law_expand.specs.Indices.{bound_index}

-- A record stands behind some of these records: its lines are closed under the variables that those define and its own; no
-- label has two binders in it, and no two of its variables have one index; all that it binds is named by its library; and
-- its references are the other libraries whose variables its lines mention. What a template inserts is no mention, so it is
-- asked that each template suits the patterns round it.
pub record IsStanding (rs : List CompiledLibrary) (r : CompiledLibrary) : Type 0 where
  pub earlier : List CompiledLibrary
  pub loaded : Each (Among rs) earlier
  pub closed : LinesClosed (flat_map defined earlier ++ defined r) r
  pub suited : Each (TemplatesSuit []) (line_cores r)
  pub bound_once : Once (run_binders r)
  pub bound_here : Each (λ l. IsOwn r l.0) (run_binders r)
  pub indexed_once : Once (flat_map bound_index r.bindings)
  pub named_here : Each (λ l. IsOwn r l.0) (bound_labels r)
  pub referred : r.refs ≡ refs_of r.name r.run

-- no two of the records have one name, and none has that of the program
pub record AreStanding (rs : List CompiledLibrary) (p : CompiledLibrary) : Type 0 where
  pub named_once : Once (names_of (rs ++ p ∷ []))
  pub libraries : Each (IsStanding rs) rs
  pub program : IsStanding rs p
