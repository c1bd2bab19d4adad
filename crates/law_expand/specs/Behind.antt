-- Every record that expansion gives follows the records before it.
use Rattle.std.specs.Prelude.{◌≡◌, ◌⊎◌, ℕ, List, [], map, Ok}
use Rattle.std.specs.List.{flat_map}
use Rattle.base_data.specs.Elements.{Each, Among, Once}
use Rattle.base_data.specs.declared.imported_name.ImportedName.{ImportedName}
use Rattle.base_data.specs.declared.library.LibName.{LibName}
use Rattle.base_data.specs.declared.library.LibName.TheVariants as library
use Rattle.base_data.specs.declared.name.Label.{Label}
use Rattle.stx_tree.specs.Tree.{Tree}
use Rattle.core_language.specs.declared.record.CompiledLibrary.{CompiledLibrary}
use Rattle.law_core.specs.Follows.{names_of, bound_labels, IsGiven, Follows}
use Rattle.law_core.specs.Following.{AllFollow}
use Rattle.eval_code.specs.Codes.{Codes}
use Rattle.expand_forms.specs.Expanding.{ready, library_record}
use Rattle.expand_forms.specs.declared.top.LibraryBody.{LibraryBody}

-- bound in one of these records, or given with the implementation
abbrev pub IsKnownBefore : List CompiledLibrary → Label → Type 0
IsKnownBefore records l = Among (flat_map bound_labels records) l ⊎ IsGiven l

-- Records that follow one another, and a library with a new name, which is neither that of the core forms nor that of the prelude. What it
-- imports is known, and no name is imported or exported twice; a form that is read has no other imports and exports.
pub record IsFollower (own : LibName) (records : List CompiledLibrary) (imports : List ImportedName) (exports : List (List ℕ × Tree)) : Type 0 where
  pub earlier : AllFollow [] records
  pub new : Among (names_of records) own → ⊥
  pub no_core : own ≡ library.Core → ⊥
  pub no_prelude : own ≡ library.Prelude → ⊥
  pub known : Each (λ (e : ImportedName). IsKnownBefore records e.label) imports
  pub imported_once : Once (map (λ (e : ImportedName). e.name) imports)
  pub exported_once : Once (map (λ (e : List ℕ × Tree). e.0) exports)

abbrev pub RecordsFollow : Type 0
RecordsFollow = (own : LibName) (records : List CompiledLibrary) (imports : List ImportedName) (body : LibraryBody) (codes : Codes) (r : CompiledLibrary)
    → IsFollower own records imports body.exports → library_record (ready own records imports codes) records body
    ≡ Ok r → Follows r records
