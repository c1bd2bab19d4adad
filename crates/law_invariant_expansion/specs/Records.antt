-- Records of libraries of which an invariant holds.
use Rattle.std.specs.Prelude.{◌≡◌, List, Ok}
use Rattle.base_data.specs.Elements.{Each}
use Rattle.base_data.specs.declared.imported_name.ImportedName.{ImportedName}
use Rattle.base_data.specs.declared.library.LibName.{LibName}
use Rattle.core_language.specs.declared.record.CompiledLibrary.{CompiledLibrary}
use Rattle.eval_code.specs.Codes.{Codes}
use Rattle.expand_forms.specs.Expanding.{ready, library_record}
use Rattle.expand_forms.specs.declared.top.LibraryBody.{LibraryBody}
use Rattle.law_invariants.specs.Holds.{CodesHold, LinesHold}
use Rattle.law_invariant_expansion.specs.States.{BindingsHold}
use Rattle.law_invariants.specs.Invariant.{Invariant}

module _ (I : Invariant) where
  -- of the constants of its lines, and of its keywords' expressions
  pub record RecordHolds (r : CompiledLibrary) : Type 0 where
    pub run : LinesHold I r.run
    pub bindings : BindingsHold I r.bindings

  -- Where it holds of the forms of a library, of the trees of the records before and of those in the codes of texts, it holds of those of its record.
  abbrev pub RecordsStay : Type 0
  RecordsStay = (own : LibName) (records : List CompiledLibrary) (imports : List ImportedName) (body : LibraryBody) (codes : Codes) (r : CompiledLibrary)
      → Each RecordHolds records → CodesHold I codes → Each I.trees body.forms
      → library_record (ready own records imports codes) records body ≡ Ok r → RecordHolds r
