-- What expansion of a library stands on.
use Rattle.std.specs.Prelude.{List, []}
use Rattle.base_data.specs.Elements.{Among}
use Rattle.base_data.specs.declared.library.LibName.{LibName}
use Rattle.core_language.specs.declared.record.CompiledLibrary.{CompiledLibrary}
use Rattle.law_core.specs.Follows.{names_of}
use Rattle.law_expand.specs.Serves.{AllServe}

-- A library has a new name, and each record before it serves those behind it. Nothing is asked of its imports and of its
-- forms, whose stamps and marks may be any.
pub record IsReady (own : LibName) (records : List CompiledLibrary) : Type 0 where
  pub new : Among (names_of records) own → ⊥
  pub earlier : AllServe [] records
