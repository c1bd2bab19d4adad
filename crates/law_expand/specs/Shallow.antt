-- How deep the core code of every record nests that expansion gives.
use Rattle.std.specs.Prelude.{◌≡◌, ◌≤◌, ◌+◌, ◌*◌, ℕ, List, Ok}
use Rattle.base_data.specs.Elements.{Each}
use Rattle.base_data.specs.declared.imported_name.ImportedName.{ImportedName}
use Rattle.base_data.specs.declared.library.LibName.{LibName}
use Rattle.core_language.specs.Core.{PlainCore}
use Rattle.core_language.specs.Height.{height}
use Rattle.core_language.specs.declared.record.CompiledLibrary.{CompiledLibrary}
use Rattle.law_core.specs.Follows.{all_cores}
use Rattle.eval_code.specs.Codes.{Codes}
use Rattle.expand_heads.specs.Depth.{most_round}
use Rattle.expand_forms.specs.Expanding.{ready, library_record}
use Rattle.expand_forms.specs.declared.top.LibraryBody.{LibraryBody}
use Rattle.law_expand.specs.Ready.{IsReady}

-- At most 600 forms stand round one, so at most 601 stand in one another, and each of them comes to at most four levels of core code. That
-- is far less than the 8,192 levels to which core text may nest.
abbrev pub deepest : ℕ
deepest = 4 * (most_round + 1)

abbrev pub IsShallow : PlainCore → Type 0
IsShallow c = height c ≤ deepest

-- each line, and each expression of a keyword
abbrev pub RecordsAreShallow : Type 0
RecordsAreShallow = (own : LibName) (records : List CompiledLibrary) (imports : List ImportedName) (body : LibraryBody) (codes : Codes) (r : CompiledLibrary)
    → IsReady own records → library_record (ready own records imports codes) records body ≡ Ok r → Each IsShallow (all_cores r)
