-- Records of libraries in which all can be read.
use Rattle.std.specs.Prelude.{◌≡◌, List, Ok}
use Rattle.base_data.specs.Elements.{Each}
use Rattle.base_data.specs.declared.imported_name.ImportedName.{ImportedName}
use Rattle.base_data.specs.declared.library.LibName.{LibName}
use Rattle.core_language.specs.declared.record.CompiledLibrary.{CompiledLibrary}
use Rattle.eval_code.specs.Codes.{Codes}
use Rattle.expand_forms.specs.Expanding.{ready, library_record}
use Rattle.expand_forms.specs.declared.top.LibraryBody.{LibraryBody}
use Rattle.law_readable.specs.Readable.{ReadableTree, ReadableCodes, readable}
use Rattle.law_invariant_expansion.specs.Records.{RecordHolds}

-- the constants of its lines and of its keywords' expressions, and the symbols of its variables
abbrev pub ReadableRecord : CompiledLibrary → Type 0
ReadableRecord = RecordHolds readable

-- Where the forms of a library can be read, and so can all in the records before and in the codes of texts, so can all in its record.
abbrev pub RecordsStayReadable : Type 0
RecordsStayReadable = (own : LibName) (records : List CompiledLibrary) (imports : List ImportedName) (body : LibraryBody) (codes : Codes) (r : CompiledLibrary)
    → Each ReadableRecord records → ReadableCodes codes → Each ReadableTree body.forms
    → library_record (ready own records imports codes) records body ≡ Ok r → ReadableRecord r
