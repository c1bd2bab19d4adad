-- The keywords of every record that expansion gives.
use Rattle.std.specs.Prelude.{◌≡◌, false, List, [], Ok}
use Rattle.std.specs.List.{flat_map}
use Rattle.base_data.specs.Elements.{Each, Once}
use Rattle.base_data.specs.Op.{is_keyword}
use Rattle.base_data.specs.declared.imported_name.ImportedName.{ImportedName}
use Rattle.base_data.specs.declared.library.LibName.{LibName}
use Rattle.core_language.specs.declared.record.CompiledLibrary.{CompiledLibrary}
use Rattle.law_core.specs.Parts.{ops}
use Rattle.law_core.specs.Scope.{Closed}
use Rattle.law_core.specs.WellMade.{IsWellMade}
use Rattle.law_core.specs.Records.{defined}
use Rattle.law_core.specs.Follows.{IsOwn, IsRecorded, keywords, all_binders, all_numbers}
use Rattle.eval_code.specs.Codes.{Codes}
use Rattle.expand_forms.specs.Expanding.{ready, library_record}
use Rattle.expand_forms.specs.declared.top.LibraryBody.{LibraryBody}
use Rattle.law_expand.specs.Ready.{IsReady}

-- Behind some records: each keyword has its expression, which is well made, names no keyword as a primitive, and is closed under the
-- variables that these define. No label has two binders in its lines and keywords, and no two codes have one number.
pub record HasGoodKeywords (records : List CompiledLibrary) (r : CompiledLibrary) : Type 0 where
  pub kinds : Each IsRecorded r.bindings
  pub well_made : Each (IsWellMade []) (keywords r)
  pub primitives : Each (λ o. is_keyword o ≡ false) (flat_map ops (keywords r))
  pub closed : Each (Closed (flat_map defined records)) (keywords r)
  pub bound_once : Once (all_binders r)
  pub bound_here : Each (λ l. IsOwn r l.0) (all_binders r)
  pub numbered_once : Once (all_numbers r)
  pub numbered_here : Each (λ n. IsOwn r n.0) (all_numbers r)

abbrev pub KeywordsAreGood : Type 0
KeywordsAreGood = (own : LibName) (records : List CompiledLibrary) (imports : List ImportedName) (body : LibraryBody) (codes : Codes) (r : CompiledLibrary)
    → IsReady own records → library_record (ready own records imports codes) records body ≡ Ok r → HasGoodKeywords records r
