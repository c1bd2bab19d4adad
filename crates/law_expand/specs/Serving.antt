-- Records that serve those behind them: those that follow one another do, and so does every record that expansion gives.
use Rattle.std.specs.Prelude.{◌≡◌, List, [], Ok}
use Rattle.base_data.specs.Elements.{Each}
use Rattle.base_data.specs.declared.imported_name.ImportedName.{ImportedName}
use Rattle.base_data.specs.declared.library.LibName.{LibName}
use Rattle.core_language.specs.declared.record.CompiledLibrary.{CompiledLibrary}
use Rattle.law_core.specs.Following.{AllFollow}
use Rattle.eval_code.specs.Codes.{Codes}
use Rattle.expand_forms.specs.Expanding.{ready, library_record}
use Rattle.expand_forms.specs.declared.top.LibraryBody.{LibraryBody}
use Rattle.law_expand.specs.Ready.{IsReady}
use Rattle.law_expand.specs.Serves.{IsThere, Serves, AllServe}

abbrev pub FollowersServe : Type 0
FollowersServe = (rs : List CompiledLibrary) → AllFollow [] rs → AllServe [] rs

-- where what it imports is there
abbrev pub RecordsServe : Type 0
RecordsServe = (own : LibName) (records : List CompiledLibrary) (imports : List ImportedName) (body : LibraryBody) (codes : Codes) (r : CompiledLibrary)
    → IsReady own records → Each (λ (e : ImportedName). IsThere records e.label.0.library) imports
    → library_record (ready own records imports codes) records body ≡ Ok r → Serves records r
