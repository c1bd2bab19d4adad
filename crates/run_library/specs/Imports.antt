-- The names that the imports of a form give, and what they stand for (R6RS 7.1).
use Rattle.std.specs.Prelude.{List, [], map, Option, Some, None, is_some, Result, Err, if◌then◌else◌}
use Rattle.std.specs.List.{find}
use Rattle.base_data.specs.Gives.{◌>>=◌}
use Rattle.base_data.specs.Same.{same_library}
use Rattle.base_data.specs.declared.fault.Fault.{Fault}
use Rattle.base_data.specs.declared.fault.FaultKind.TheVariants as kind
use Rattle.base_data.specs.declared.library.LibName.{LibName}
use Rattle.base_data.specs.declared.library.LibName.TheVariants as names
use Rattle.load_builtin.specs.Exports.{exports}
use Rattle.run_derived.specs.Derived.{relabelled_in}
use Rattle.core_language.specs.declared.record.CompiledLibrary.{CompiledLibrary}
use Rattle.load_import.specs.Names.{Labelled, import_names, joined}
use Rattle.load_import.specs.Turns.{turns}
use Rattle.load_import.specs.declared.set.ImportSet.{ImportSet}
use Rattle.load_forms.specs.declared.set.Import.{Import}
use Rattle.load_files.specs.Load.{about, fitting, builtin_version}

-- the record of a library
abbrev pub named : LibName → List CompiledLibrary → Option CompiledLibrary
named name records = find (λ r. same_library r.name name) records

abbrev pub record_referred : ImportSet → Option CompiledLibrary → Result (Unit {0}) Fault
record_referred set None = Err (about kind.LibraryNotFound set)
record_referred set (Some r) = fitting r.version set tt

-- the library is there, and its version fits the reference
abbrev pub referred : List CompiledLibrary → ImportSet → Result (Unit {0}) Fault
referred records set =
    if is_some (exports set.library) then fitting builtin_version set tt
    else record_referred set (named set.library records)

abbrev pub refer : List CompiledLibrary → Unit {0} → Import → Result (Unit {0}) Fault
refer records done import = referred records import.set

abbrev pub record_exports : Option CompiledLibrary → Labelled
record_exports None = []
record_exports (Some r) = r.exports

-- of the names of the implementation a derived one stands for what the derived record exports, where that is there
abbrev pub given_names : Option CompiledLibrary → Labelled → Labelled
given_names None names = names
given_names (Some r) names = map (λ e. relabelled_in r e) names

abbrev pub exported_by : Option CompiledLibrary → Option CompiledLibrary → Option Labelled → Labelled
exported_by d r None = record_exports r
exported_by d r (Some names) = given_names d names

-- what a library exports: one that is given with the implementation, or one of these
abbrev pub exported : List CompiledLibrary → LibName → Labelled
exported records library = exported_by (named names.Derived records) (named library records) (exports library)

-- the names of an import set, joined to others
abbrev pub import_into : List CompiledLibrary → Labelled → Import → Result Labelled Fault
import_into records names import = import_names import.set import.span (exported records import.set.library) >>= (λ more. joined import.span names more)

-- each library is there in a version that fits, before any name is looked for
unfoldable pub form_names : List CompiledLibrary → List Import → Result Labelled Fault
form_names records imports = turns (refer records) tt imports >>= (λ done. turns (import_into records) [] imports)
