-- The trees of records stay within their limits.
use Rattle.std.specs.Prelude.{◌≡◌, List, Ok}
use Rattle.base_data.specs.Elements.{Each}
use Rattle.base_data.specs.declared.imported_name.ImportedName.{ImportedName}
use Rattle.base_data.specs.declared.library.LibName.{LibName}
use Rattle.stx_tree.specs.Measures.{Fits}
use Rattle.core_language.specs.declared.record.CompiledLibrary.{CompiledLibrary}
use Rattle.eval_code.specs.Codes.{Codes}
use Rattle.expand_forms.specs.Expanding.{ready, library_record}
use Rattle.expand_forms.specs.declared.top.LibraryBody.{LibraryBody}
use Rattle.law_limits.specs.Holds.{CodesHold}
use Rattle.law_limit_expansion.specs.Records.{RecordHolds}

-- Where each form of a library, and each tree in the records before and in the codes of texts, is at most 1,000 high and has at most 16,777,216 parts,
-- so is each tree in its record; and each constant there is the datum of such a tree.
abbrev pub RecordsStayWithin : Type 0
RecordsStayWithin = (own : LibName) (records : List CompiledLibrary) (imports : List ImportedName) (body : LibraryBody) (codes : Codes) (r : CompiledLibrary)
    → Each (RecordHolds Fits) records → CodesHold Fits codes → Each Fits body.forms
    → library_record (ready own records imports codes) records body ≡ Ok r → RecordHolds Fits r
