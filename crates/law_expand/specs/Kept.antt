-- The expressions of a library's own keywords that are kept, and states in which its forms are expanded.
use Rattle.std.specs.Prelude.{◌≡◌, ◌⊎◌, ◌<◌, false, List, [], Some}
use Rattle.base_data.specs.Elements.{Each, Among}
use Rattle.base_data.specs.Named.{Named}
use Rattle.base_data.specs.Op.{is_keyword}
use Rattle.base_data.specs.declared.library.LibName.{LibName}
use Rattle.base_data.specs.declared.name.CodeNo.{CodeNo}
use Rattle.base_data.specs.declared.name.Label.{Label}
use Rattle.core_language.specs.Core.{PlainCore}
use Rattle.core_language.specs.References.{binders}
use Rattle.core_language.specs.declared.binding.VarInfo.{VarInfo}
use Rattle.law_core.specs.Parts.{ops, code_numbers}
use Rattle.law_core.specs.Scope.{Closed}
use Rattle.law_core.specs.WellMade.{IsWellMade}
use Rattle.eval_stage.specs.Stage.{keyword_at, expression_in}
use Rattle.eval_stage.specs.declared.keyword.Keyword.{Keyword}
use Rattle.expand_standing.specs.State.{State}
use Rattle.law_expand.specs.Shallow.{IsShallow}
use Rattle.law_expand.specs.States.{IsOwn, IsTop, Sound}

abbrev pub label_named : Named → Label
label_named n = record { 0 = n }

abbrev pub code_named : Named → CodeNo
code_named n = record { 0 = n }

-- core code binds the label of this name, or numbers one of its codes by it
abbrev pub MakesName : PlainCore → Named → Type 0
MakesName c n = Among (binders c) (label_named n) ⊎ Among (code_numbers c) (code_named n)

-- the expression that is kept with a keyword
abbrev pub IsKeptWith : List (Label × Keyword) → Label → PlainCore → Type 0
IsKeptWith ks l c = expression_in (keyword_at ks l) ≡ Some c

-- the expression of a keyword of the library makes this name
abbrev pub IsNameOfKept : LibName → List (Label × Keyword) → Named → Type 0
IsNameOfKept own ks n = (l : Label) × ((c : PlainCore) × (IsOwn own l.0 × (IsKeptWith ks l c × MakesName c n)))

-- It is closed under what other libraries define, well made, and no deeper than forms nest; no primitive in it is a keyword, and what it names is of
-- the library.
pub record IsKeptExpression (own : LibName) (given : List Label) (c : PlainCore) : Type 0 where
  pub closed : Closed given c
  pub well_made : IsWellMade [] c
  pub primitives : Each (λ o. is_keyword o ≡ false) (ops c)
  pub names_here : (n : Named) → MakesName c n → IsOwn own n
  pub shallow : IsShallow c

-- So are the expressions of all keywords of the library that are kept; the names in them were made, and no two share one.
pub record KeptAreGood (own : LibName) (given : List Label) (s : State) : Type 0 where
  pub below : (n : Named) → IsNameOfKept own s.keywords n → n.number < s.names.number
  pub good : (l : Label) (c : PlainCore) → IsOwn own l.0 → IsKeptWith s.keywords l c → IsKeptExpression own given c
  pub apart : (l m : Label) (c d : PlainCore) (n : Named) → IsOwn own l.0 → IsOwn own m.0 → IsKeptWith s.keywords l c
      → IsKeptWith s.keywords m d → MakesName c n → MakesName d n → l ≡ m

-- What forms of a library are expanded in: the variables of its top are of level 0, and what is kept is good.
pub record IsGoodState (own : LibName) (given : List Label) (s : State) : Type 0 where
  pub sound : Sound own given s
  pub level : (l : Label) (v : VarInfo) → IsOwn own l.0 → IsTop s l v → v.level ≡ 0
  pub kept : KeptAreGood own given s
