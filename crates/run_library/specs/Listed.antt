-- The names of libraries, listed once for all imports of a form.
use Rattle.std.specs.Prelude.{◌≡◌, List, [], Some, Ok}
use Rattle.base_data.specs.declared.library.LibName.{LibName}
use Rattle.base_data.specs.declared.span.Span.{Span}
use Rattle.core_language.specs.declared.record.CompiledLibrary.{CompiledLibrary}
use Rattle.load_import.specs.Names.{Labelled, joined}
use Rattle.load_import.specs.Sources.{names_in}
use Rattle.load_import.specs.declared.sources.ImportSource.{ImportSource}
use Rattle.run_library.specs.Imports.{exported}

-- of each library that is listed the names are those that it exports, each once
abbrev pub AreListed : List CompiledLibrary → List (LibName × ImportSource) → Type 0
AreListed records rows = (library : LibName) (names : Labelled) → names_in library rows ≡ Some names → (span : Span)
    → joined span [] (exported records library) ≡ Ok names
