-- Every record that expansion makes has its spelling.
use Rattle.std.specs.Prelude.{◌≡◌, List, Ok, true}
use Rattle.base_data.specs.declared.library.LibName.{LibName}
use Rattle.core_codec.specs.Records.{has_spelling}
use Rattle.core_language.specs.declared.record.CompiledLibrary.{CompiledLibrary}
use Rattle.eval_code.specs.Codes.{Codes}
use Rattle.base_data.specs.Elements.{Each}
use Rattle.base_data.specs.declared.imported_name.ImportedName.{ImportedName}
use Rattle.expand_forms.specs.Expanding.{ready, library_record}
use Rattle.expand_forms.specs.declared.top.LibraryBody.{LibraryBody}
use Rattle.law_expand.specs.Ready.{IsReady}
use Rattle.law_invariants.specs.Holds.{CodesHold}
use Rattle.law_spellings.specs.Numbers.{NumbersFit}
use Rattle.law_spellings.specs.Spelled.{SpelledTree, SpelledRecord, spelled}

-- Where the forms of a library are spelled, and so are the trees and the codes of the records before it and of the texts, so are those of its
-- record.
abbrev pub RecordsStaySpelled : Type 0
RecordsStaySpelled = (own : LibName) (records : List CompiledLibrary) (imports : List ImportedName) (body : LibraryBody) (codes : Codes) (r : CompiledLibrary)
    → Each SpelledRecord records → CodesHold spelled codes → Each SpelledTree body.forms
    → library_record (ready own records imports codes) records body ≡ Ok r → SpelledRecord r

-- So, behind records that expansion can stand on, the record has its spelling as an entry if its names, spans, numbers and lengths have theirs.
abbrev pub RecordsHaveSpellings : Type 0
RecordsHaveSpellings = (own : LibName) (records : List CompiledLibrary) (imports : List ImportedName) (body : LibraryBody) (codes : Codes) (r : CompiledLibrary)
    → IsReady own records → Each SpelledRecord records → CodesHold spelled codes → Each SpelledTree body.forms
    → library_record (ready own records imports codes) records body ≡ Ok r
    → NumbersFit r → has_spelling r ≡ true
