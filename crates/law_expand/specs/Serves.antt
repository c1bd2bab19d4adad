-- What a record leaves to those behind it.
use Rattle.std.specs.Prelude.{◌≡◌, ◌⊎◌, List, [], ◌∷◌, ◌++◌}
use Rattle.base_data.specs.Elements.{Each, Among}
use Rattle.base_data.specs.declared.library.LibName.{LibName}
use Rattle.base_data.specs.declared.library.LibName.TheVariants as library
use Rattle.base_data.specs.declared.name.Label.{Label}
use Rattle.stx_tree.specs.declared.frame_row.FrameRow.{FrameRow}
use Rattle.core_language.specs.declared.record.CompiledLibrary.{CompiledLibrary}
use Rattle.law_core.specs.Records.{defined}
use Rattle.law_core.specs.Follows.{names_of, bound_labels, row_labels, export_labels, IsOwn, IsRecorded, tops}

-- of the implementation: core forms and primitives, or keywords that are defined in terms of them
abbrev pub IsOfImplementation : LibName → Type 0
IsOfImplementation l = (l ≡ library.Core) ⊎ (l ≡ library.Derived)

-- one of these records' libraries, or of the implementation
abbrev pub IsThere : List CompiledLibrary → LibName → Type 0
IsThere records l = Among (names_of records) l ⊎ IsOfImplementation l

-- a label of the record's own library, or of one that is there
abbrev pub IsLabelThere : List CompiledLibrary → CompiledLibrary → Label → Type 0
IsLabelThere records r l = IsOwn r l.0 ⊎ IsThere records l.0.library

-- Behind some records: it binds its own labels, to variables and keywords, and its run lines define those of the top. Its
-- frames are its own, and what these give, and what it exports, is its own or was there: names of the implementation may be
-- imported before any record binds them.
pub record Serves (records : List CompiledLibrary) (r : CompiledLibrary) : Type 0 where
  pub own_bindings : Each (λ l. IsOwn r l.0) (bound_labels r)
  pub kinds : Each IsRecorded r.bindings
  pub tops_defined : Each (Among (defined r)) (tops r)
  pub own_frames : Each (λ (f : FrameRow). IsOwn r f.frame.0) r.frames
  pub rows : Each (IsLabelThere records r) (row_labels r)
  pub exports : Each (IsLabelThere records r) (export_labels r)

-- behind some records, each of these serves
abbrev pub AllServe : List CompiledLibrary → List CompiledLibrary → Type 0
AllServe earlier [] = Unit {0}
AllServe earlier (r ∷ rs) = Serves earlier r × AllServe (earlier ++ r ∷ []) rs
