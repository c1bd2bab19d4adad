-- Library forms and programs (R6RS 7.1 and 8.1).
use Rattle.std.specs.Prelude.{ℕ, List, [], ◌∷◌, ◌++◌, drop, Option, Some, None, Result, Ok, Err, if◌then◌else◌, codes}
use Rattle.base_data.specs.Datum.{PlainDatum, proper_elements}
use Rattle.base_data.specs.Gives.{◌>>=◌}
use Rattle.base_data.specs.declared.fault.Fault.{Fault}
use Rattle.base_data.specs.declared.fault.FaultKind.TheVariants.{NotLibrary, BadForm}
use Rattle.base_data.specs.declared.library.LibName.TheVariants as library
use Rattle.base_data.specs.declared.span.Span.{Span}
use Rattle.load_forms.specs.All.{given}
use Rattle.load_forms.specs.Export.{export_spec, exported, ExportList}
use Rattle.load_forms.specs.Name.{named}
use Rattle.load_forms.specs.Set.{start, datum_place, import_spec}
use Rattle.load_forms.specs.Words.{is_word}
use Rattle.load_forms.specs.declared.export.Export.{Export}
use Rattle.load_forms.specs.declared.form.LibraryForm.{LibraryForm}
use Rattle.load_forms.specs.declared.name.VersionedName.{VersionedName}
use Rattle.load_forms.specs.declared.set.Import.{Import}

-- what stands behind a word at the front of a list
abbrev pub behind_word : List ℕ → List PlainDatum → Option (List PlainDatum)
behind_word word [] = None
behind_word word (d ∷ ds) = if is_word word d then Some ds else None

abbrev pub form_of : List ℕ → PlainDatum → Option (List PlainDatum)
form_of word d = given (proper_elements d) (behind_word word)

-- at the first datum, or at the start of the file
abbrev pub first_place : List ℕ → List PlainDatum → Span
first_place file [] = start file
first_place file (d ∷ ds) = datum_place file d

abbrev pub not_library : List ℕ → List PlainDatum → Fault
not_library file ds = record { kind = NotLibrary; span = first_place file ds; words = [] }

abbrev pub bad_form : List ℕ → PlainDatum → Fault
bad_form file d = record { kind = BadForm; span = datum_place file d; words = [] }

abbrev pub or_fault : {A B : Type 0} → Fault → Option A → (A → Result B Fault) → Result B Fault
or_fault fault None f = Err fault
or_fault fault (Some a) f = f a

-- the first spec that is none is at fault
abbrev pub import_specs : List ℕ → List Import → List PlainDatum → Result (List Import) Fault
import_specs file done [] = Ok done
import_specs file done (d ∷ ds) = or_fault (bad_form file d) (import_spec file d) (λ i. import_specs file (done ++ i ∷ []) ds)

abbrev pub export_specs : List ℕ → List Export → List PlainDatum → Result (List Export) Fault
export_specs file done [] = Ok done
export_specs file done (d ∷ ds) = or_fault (bad_form file d) (export_spec file d) (λ es. export_specs file (done ++ es) ds)

abbrev pub library_with : VersionedName → Span → List Import → ExportList → LibraryForm
library_with n place imports exports = record { name = n.name; name_span = place; version = n.version; exports = exports; imports = imports }

-- bad specs come before names that are exported twice
abbrev pub library_of : List ℕ → Span → List PlainDatum → List PlainDatum → VersionedName → Result LibraryForm Fault
library_of file place exports imports n =
    export_specs file [] exports >>= (λ es. import_specs file [] imports >>= (λ is. exported es >>= (λ names. Ok (library_with n place is names))))

-- a library form of this file; anything else is this fault
module _ (file : List ℕ) (fault : Fault) where
  abbrev pub library_parts : PlainDatum → Option VersionedName → Option (List PlainDatum) → Option (List PlainDatum) → Result LibraryForm Fault
  library_parts name None exports imports = Err fault
  library_parts name (Some n) None imports = Err fault
  library_parts name (Some n) (Some es) None = Err fault
  library_parts name (Some n) (Some es) (Some is) = library_of file (datum_place file name) es is n

  abbrev pub library_in : List PlainDatum → Result LibraryForm Fault
  library_in [] = Err fault
  library_in (name ∷ []) = Err fault
  library_in (name ∷ exports ∷ []) = Err fault
  library_in (name ∷ exports ∷ imports ∷ body) =
      library_parts name (named name) (form_of (codes "export") exports) (form_of (codes "import") imports)

-- a file is one library form
abbrev pub read_library : List ℕ → List PlainDatum → Result LibraryForm Fault
read_library file [] = Err (not_library file [])
read_library file (d ∷ []) = or_fault (not_library file (d ∷ [])) (form_of (codes "library") d) (library_in file (not_library file (d ∷ [])))
read_library file (d ∷ e ∷ ds) = Err (not_library file (d ∷ e ∷ ds))

-- what stands behind name, exports and imports
abbrev pub body_in : Option (List PlainDatum) → List PlainDatum
body_in None = []
body_in (Some ds) = drop 3 ds

abbrev pub library_body : List PlainDatum → List PlainDatum
library_body [] = []
library_body (d ∷ ds) = body_in (form_of (codes "library") d)

-- a program begins with its import form
abbrev pub program_of : List ℕ → Span → List PlainDatum → Result LibraryForm Fault
program_of file place imports = import_specs file [] imports
    >>= (λ is. Ok (record { name = library.Program; name_span = place; version = []; exports = []; imports = is }))

abbrev pub read_program : List ℕ → List PlainDatum → Result LibraryForm Fault
read_program file [] = Err (not_library file [])
read_program file (d ∷ ds) = or_fault (not_library file (d ∷ ds)) (form_of (codes "import") d) (program_of file (datum_place file d))

abbrev pub program_body : List PlainDatum → List PlainDatum
program_body ds = drop 1 ds
