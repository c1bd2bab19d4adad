-- Every record that expansion gives is closed, bound once and well made.
use Rattle.std.specs.Prelude.{◌≡◌, false, List, [], ◌++◌, Ok}
use Rattle.std.specs.List.{flat_map}
use Rattle.base_data.specs.Elements.{Each, Once}
use Rattle.base_data.specs.Op.{is_keyword}
use Rattle.base_data.specs.declared.imported_name.ImportedName.{ImportedName}
use Rattle.base_data.specs.declared.library.LibName.{LibName}
use Rattle.core_language.specs.declared.record.CompiledLibrary.{CompiledLibrary}
use Rattle.law_core.specs.Parts.{ops, code_numbers}
use Rattle.law_core.specs.WellMade.{IsWellMade}
use Rattle.law_core.specs.Records.{defined, run_binders, LinesClosed}
use Rattle.law_core.specs.Follows.{line_cores, IsOwn}
use Rattle.eval_code.specs.Codes.{Codes}
use Rattle.expand_forms.specs.Expanding.{ready, library_record}
use Rattle.expand_forms.specs.Top.{refs_of}
use Rattle.expand_forms.specs.declared.top.LibraryBody.{LibraryBody}
use Rattle.law_expand.specs.Indices.{bound_index}
use Rattle.law_expand.specs.Ready.{IsReady}

-- Behind some records: its lines are closed under the variables that these define and its own. No label has two binders in
-- it, no two codes have one number, and no two variables one index, which ends their generated names. Binders and codes are
-- named by its library. Each line is well made, and no primitive in it is a keyword. It refers to the other libraries whose variables
-- its lines mention.
pub record IsGood (records : List CompiledLibrary) (r : CompiledLibrary) : Type 0 where
  pub closed : LinesClosed (flat_map defined records ++ defined r) r
  pub bound_once : Once (run_binders r)
  pub bound_here : Each (λ l. IsOwn r l.0) (run_binders r)
  pub indexed_once : Once (flat_map bound_index r.bindings)
  pub numbered_once : Once (flat_map code_numbers (line_cores r))
  pub numbered_here : Each (λ n. IsOwn r n.0) (flat_map code_numbers (line_cores r))
  pub well_made : Each (IsWellMade []) (line_cores r)
  pub primitives : Each (λ o. is_keyword o ≡ false) (flat_map ops (line_cores r))
  pub references : r.refs ≡ refs_of r.name r.run

-- and it has the name of the library
abbrev pub RecordsAreGood : Type 0
RecordsAreGood = (own : LibName) (records : List CompiledLibrary) (imports : List ImportedName) (body : LibraryBody) (codes : Codes) (r : CompiledLibrary)
    → IsReady own records → library_record (ready own records imports codes) records body ≡ Ok r → IsGood records r × (r.name ≡ own)
