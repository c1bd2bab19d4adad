-- The names of the libraries that are given with the implementation, behind those that the derived library exports.
use Rattle.std.specs.Prelude.{◌≡◌, List, [], map, Option, Some, None, Ok, if◌then◌else◌}
use Rattle.base_data.specs.Same.{same_library}
use Rattle.base_data.specs.declared.imported_name.ImportedName.{ImportedName}
use Rattle.base_data.specs.declared.library.LibName.{LibName}
use Rattle.base_data.specs.declared.library.LibName.TheVariants as names
use Rattle.base_data.specs.declared.span.Span.{Span}
use Rattle.load_builtin.specs.Exports.{exports}
use Rattle.core_language.specs.declared.record.CompiledLibrary.{CompiledLibrary}
use Rattle.run_derived.specs.Derived.{label_or}
use Rattle.load_import.specs.Names.{Labelled, label_named, joined}
use Rattle.load_import.specs.Sources.{names_in}
use Rattle.load_import.specs.declared.sources.ImportSource.{ImportSource}

-- what a record exports, where it is there
abbrev pub exports_of : Option CompiledLibrary → Option Labelled
exports_of None = None
exports_of (Some r) = Some r.exports

-- a derived name stands for what these names say
abbrev pub relabelled_by : Labelled → ImportedName → ImportedName
relabelled_by derived e =
    if same_library e.label.0.library names.Derived then record { name = e.name; label = label_or e.label (label_named e.name derived) } else e

abbrev pub names_behind : Option Labelled → Labelled → Labelled
names_behind None names = names
names_behind (Some derived) names = map (λ e. relabelled_by derived e) names

abbrev pub or_none : Option Labelled → Labelled
or_none None = []
or_none (Some names) = names

-- the names of a library that is given with the implementation; of another there are none
abbrev pub given_of : LibName → Labelled
given_of library = or_none (exports library)

-- of each library that is listed the names are those that it exports, each once
abbrev pub AreGiven : Option Labelled → List (LibName × ImportSource) → Type 0
AreGiven derived rows = (library : LibName) (names : Labelled) → names_in library rows ≡ Some names → (span : Span)
    → joined span [] (names_behind derived (given_of library)) ≡ Ok names
