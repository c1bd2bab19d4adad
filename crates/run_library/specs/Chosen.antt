-- Looking for a record among those at places that are chosen.
use Rattle.std.specs.Prelude.{Option, Some, None, if◌then◌else◌}
use Rattle.base_data.specs.Same.{same_library}
use Rattle.base_data.specs.declared.library.LibName.{LibName}
use Rattle.core_language.specs.declared.record.CompiledLibrary.{CompiledLibrary}

-- a record, where it is that of a library
abbrev pub named_at : LibName → Option CompiledLibrary → Option CompiledLibrary
named_at name None = None
named_at name (Some r) = if same_library r.name name then Some r else None
