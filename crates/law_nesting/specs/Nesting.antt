-- How deep the lines of every record nest that expansion gives, in core code and in text.
use Rattle.std.specs.Prelude.{◌≡◌, ◌≤◌, ◌+◌, ◌*◌, ℕ, List, Ok}
use Rattle.base_data.specs.Elements.{Each}
use Rattle.base_data.specs.declared.imported_name.ImportedName.{ImportedName}
use Rattle.base_data.specs.declared.library.LibName.{LibName}
use Rattle.core_language.specs.Core.{PlainCore}
use Rattle.core_language.specs.Height.{height}
use Rattle.core_language.specs.declared.record.CompiledLibrary.{CompiledLibrary}
use Rattle.law_core.specs.Records.{line_core}
use Rattle.eval_code.specs.Codes.{Codes}
use Rattle.expand_heads.specs.Depth.{most_round}
use Rattle.expand_forms.specs.Expanding.{ready, library_record}
use Rattle.expand_forms.specs.declared.top.LibraryBody.{LibraryBody}
use Rattle.law_nesting.specs.Heights.{Between, in_code, height_with}

-- without what stands between forms and their parts, it is the height of core code
abbrev pub CodeHasItsHeight : Type 0
CodeHasItsHeight = (c : PlainCore) → height_with in_code c ≡ height c

-- no more stands between than in text
pub record IsAtMostText (between : Between) : Type 0 where
  pub init : between.init ≤ 2
  pub case : between.case ≤ 1

-- At most 600 forms stand round one, so at most 601 stand in one another, and each of them comes to at most four levels, whether these are
-- expressions of core code or lists of its text: `(define (f) (define (g) ..) ..)` in a body is the value of a `letrec*`, three lists deep,
-- and a `lambda`.
abbrev pub deepest : ℕ
deepest = 4 * (most_round + 1)

-- each line of a record, whatever the records before it and the forms of its library
abbrev pub LinesNest : Type 0
LinesNest = (between : Between) → IsAtMostText between → (own : LibName) (records : List CompiledLibrary)
    (imports : List ImportedName) (body : LibraryBody) (codes : Codes) (r : CompiledLibrary)
    → library_record (ready own records imports codes) records body ≡ Ok r
    → Each (λ l. height_with between (line_core l) ≤ deepest) r.run
