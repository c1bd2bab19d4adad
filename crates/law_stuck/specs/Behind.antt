-- Records one behind another, as far as evaluation stands on them.
use Rattle.std.specs.Prelude.{◌≡◌, ◌⊎◌, ℕ, true, List, [], ◌∷◌, ◌++◌, Option, None, Some}
use Rattle.std.specs.List.{flat_map}
use Rattle.base_data.specs.Elements.{Each, Among, Once}
use Rattle.base_data.specs.declared.library.LibName.{LibName}
use Rattle.base_data.specs.declared.library.LibName.TheVariants as library
use Rattle.base_data.specs.declared.name.Label.{Label}
use Rattle.core_language.specs.Core.{PlainCore}
use Rattle.core_language.specs.References.{references, binders}
use Rattle.core_language.specs.declared.binding.Binding.TheVariants as binding
use Rattle.core_language.specs.declared.record.CompiledLibrary.{CompiledLibrary}
use Rattle.law_core.specs.Scope.{Closed}
use Rattle.law_core.specs.WellMade.{IsWellMade}
use Rattle.law_core.specs.Records.{defined, LinesClosed}
use Rattle.law_core.specs.Follows.{names_of, bound_labels, keywords, line_cores, all_cores, all_binders, all_numbers, IsOwn}
use Rattle.eval_stage.specs.Libraries.{has_library}

-- of the implementation: its procedures that are texts are named so
abbrev pub IsOfTexts : LibName → Type 0
IsOfTexts l = (l ≡ library.Core) ⊎ (l ≡ library.Prelude)

-- a label of the record's own library, or of one that it refers to
abbrev pub IsReferred : CompiledLibrary → Label → Type 0
IsReferred r l = IsOwn r l.0 ⊎ (has_library r.refs l.0.library ≡ true)

-- A record behind others: its library has a name of its own, and it binds labels of its own. Its lines are closed under what these and it define, its keywords under what
-- these define; both are well made. Each binder and each code is named by its library, and no two codes have one name. It refers to the libraries
-- whose variables its lines mention, and to none but these records'.
pub record IsBehind (earlier : List CompiledLibrary) (r : CompiledLibrary) : Type 0 where
  pub new : Among (names_of earlier) r.name → ⊥
  pub no_text : IsOfTexts r.name → ⊥
  pub bindings_here : Each (λ l. IsOwn r l.0) (bound_labels r)
  pub lines : LinesClosed (flat_map defined earlier ++ defined r) r
  pub transformers : Each (Closed (flat_map defined earlier)) (keywords r)
  pub well_made : Each (IsWellMade []) (all_cores r)
  pub bound_here : Each (λ l. IsOwn r l.0) (all_binders r)
  pub numbered_once : Once (all_numbers r)
  pub numbered_here : Each (λ n. IsOwn r n.0) (all_numbers r)
  pub referred : Each (λ c. Each (IsReferred r) (references c)) (line_cores r)
  pub known : (k : LibName) → has_library r.refs k ≡ true → Among (names_of earlier) k

-- behind some records, each of these stands behind those before it
abbrev pub AllBehind : List CompiledLibrary → List CompiledLibrary → Type 0
AllBehind earlier [] = Unit {0}
AllBehind earlier (r ∷ rs) = IsBehind earlier r × AllBehind (earlier ++ r ∷ []) rs

-- the keyword of one of these records, with its expression
pub record IsKeywordOf (rs : List CompiledLibrary) (l : Label) (c : PlainCore) : Type 0 where
  pub keeper : CompiledLibrary
  pub among : Among rs keeper
  pub level : ℕ
  pub bound : Among keeper.bindings (l, binding.Macro level (Some c))

-- what the binding of an imported keyword tells
abbrev pub IsImported : List CompiledLibrary → Label → Option PlainCore → Type 0
IsImported rs l None = Unit {0}
IsImported rs l (Some c) = IsKeywordOf rs l c

-- the expression of a keyword that stands behind these records
pub record IsKeywordExpression (rs : List CompiledLibrary) (c : PlainCore) : Type 0 where
  pub closed : Closed (flat_map defined rs) c
  pub well_made : IsWellMade [] c
  -- it binds nothing that these define
  pub apart : Each (λ l. Among (flat_map defined rs) l → ⊥) (binders c)
