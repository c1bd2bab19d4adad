-- The variables that the lines of a record define and bind.
use Rattle.std.specs.Prelude.{◌≡◌, List, Ok}
use Rattle.base_data.specs.Elements.{Each, Among, Once}
use Rattle.base_data.specs.declared.imported_name.ImportedName.{ImportedName}
use Rattle.base_data.specs.declared.library.LibName.{LibName}
use Rattle.core_language.specs.declared.record.CompiledLibrary.{CompiledLibrary}
use Rattle.law_core.specs.Follows.{IsThere, bound_labels, indices, run_variables, tops}
use Rattle.law_core.specs.Records.{defined}
use Rattle.eval_code.specs.Codes.{Codes}
use Rattle.expand_forms.specs.Expanding.{ready, library_record}
use Rattle.expand_forms.specs.declared.top.LibraryBody.{LibraryBody}
use Rattle.law_expand.specs.Ready.{IsReady}

-- No label has two bindings in a record. Each variable that a line of it defines or binds has an index, none is defined or bound twice, and
-- no two have one index. What a line defines is a variable of the top.
pub record HasIndices (r : CompiledLibrary) : Type 0 where
  pub bindings_once : Once (bound_labels r)
  pub indexed : Each IsThere (indices r)
  pub variables_once : Once (run_variables r)
  pub indexed_once : Once (indices r)
  pub defined_top : Each (Among (tops r)) (defined r)

abbrev pub VariablesHaveIndices : Type 0
VariablesHaveIndices = (own : LibName) (records : List CompiledLibrary) (imports : List ImportedName) (body : LibraryBody) (codes : Codes) (r : CompiledLibrary)
    → IsReady own records → library_record (ready own records imports codes) records body ≡ Ok r → HasIndices r
