-- The order of what a record binds, and of the rows of its frames.
use Rattle.std.specs.Prelude.{◌≡◌, List, Ok, true}
use Rattle.base_data.specs.declared.library.LibName.{LibName}
use Rattle.base_data.specs.declared.imported_name.ImportedName.{ImportedName}
use Rattle.core_codec.specs.Records.{bindings_rise, rows_rise}
use Rattle.core_language.specs.declared.record.CompiledLibrary.{CompiledLibrary}
use Rattle.eval_code.specs.Codes.{Codes}
use Rattle.expand_forms.specs.Expanding.{ready, library_record}
use Rattle.expand_forms.specs.declared.top.LibraryBody.{LibraryBody}

-- Each label that a record binds comes after the one before it, and no row's frame before that of the row before it, whatever is expanded.
pub record RecordRises (r : CompiledLibrary) : Type 0 where
  pub bindings : bindings_rise r.bindings ≡ true
  pub rows : rows_rise r.frames ≡ true

abbrev pub RecordsRise : Type 0
RecordsRise = (own : LibName) (records : List CompiledLibrary) (imports : List ImportedName) (body : LibraryBody) (codes : Codes) (r : CompiledLibrary)
    → library_record (ready own records imports codes) records body ≡ Ok r → RecordRises r
