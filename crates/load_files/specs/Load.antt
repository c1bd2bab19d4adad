-- Loading: which files a program needs, in which order (R6RS 7.1 and 7.2).
use Rattle.std.specs.Prelude.{ℕ, zero, suc, ◌-◌, Bool, true, false, List, [], ◌∷◌, ◌++◌, length, min, nat_le, Option, Some, None, is_some, slice_get, Result, Ok, Err, if◌then◌else◌}
use Rattle.base_data.specs.Datum.{PlainDatum}
use Rattle.base_data.specs.Gives.{◌>>=◌}
use Rattle.base_data.specs.Same.{same_library}
use Rattle.base_data.specs.declared.fault.Fault.{Fault}
use Rattle.base_data.specs.declared.fault.FaultKind.{FaultKind}
use Rattle.base_data.specs.declared.fault.FaultKind.TheVariants as kind
use Rattle.base_data.specs.declared.library.LibName.{LibName}
use Rattle.load_builtin.specs.Exports.{exports}
use Rattle.load_forms.specs.Form.{read_library, read_program}
use Rattle.load_forms.specs.Set.{start}
use Rattle.load_forms.specs.Version.{version_fits}
use Rattle.load_forms.specs.declared.form.LibraryForm.{LibraryForm}
use Rattle.load_forms.specs.declared.set.Import.{Import}
use Rattle.load_import.specs.Table.{value_of}
use Rattle.load_import.specs.declared.set.ImportSet.{ImportSet}
use Rattle.base_outside.specs.Contents.{Paths, at_path, Reading, bytes, longer, absent, read_of}
use Rattle.read_reader.specs.Read.{data_of, file_nesting}
use Rattle.load_report.specs.Name.{name_text}
use Rattle.load_files.specs.Found.{nothing_loaded, is_marked, with_needs, no_needs, most_libraries, absent_at, with_source, with_sources, with_begun, with_done, found_of}
use Rattle.load_file_names.specs.File.{file_of}
use Rattle.load_files.specs.declared.found.Source.{Source}
use Rattle.load_files.specs.declared.found.Opened.{Opened}
use Rattle.load_files.specs.declared.found.Found.{Found}
use Rattle.load_files.specs.declared.found.Loading.{Loading}
use Rattle.load_files.specs.declared.search.Sought.{Sought}
use Rattle.load_files.specs.declared.search.Sought.TheVariants as sought
use Rattle.load_files.specs.declared.refer.Known.{Known}
use Rattle.load_files.specs.declared.refer.Known.TheVariants as known

-- a fault comes with what was loaded before it
abbrev pub Loads : Type 0 → Type 0
Loads A = Result A (Loading × Fault)

abbrev pub lifted : {A : Type 0} → Loading → Result A Fault → Loads A
lifted s (Ok x) = Ok x
lifted s (Err f) = Err (s, f)

-- ---- faults

abbrev pub about : FaultKind → ImportSet → Fault
about kind set = record { kind = kind; span = set.place; words = name_text set.library ∷ [] }

abbrev pub too_many : ImportSet → Fault
too_many set = record { kind = kind.TooManyLibraries; span = set.place; words = [] }

-- a fault of a file that was not read, at its start
abbrev pub at_start : FaultKind → List ℕ → List (List ℕ) → Fault
at_start kind path words = record { kind = kind; span = start path; words = words }

-- the name that stands in the file
abbrev pub differs : LibraryForm → Fault
differs form = record { kind = kind.NameDiffers; span = form.name_span; words = name_text form.name ∷ [] }

-- ---- reading one file

-- the most bytes of one file, and of all files of a run
abbrev pub file_limit : ℕ
file_limit = 4194304

abbrev pub run_limit : ℕ
run_limit = 67108864

-- the most bytes of the next file
abbrev pub most : ℕ → ℕ
most read = min file_limit (run_limit - read)

-- what is looked for further on, unless this path is there
abbrev pub sought_at : List ℕ → List Source → List Source × Sought → Reading → List Source × Sought
sought_at path sources later absent = later
sought_at path sources later (bytes held) = (sources, sought.Bytes path held)
sought_at path sources later longer = (sources, sought.Longer path)

-- a file under the first root that has it; the paths under the roots before that one are absent
unfoldable pub look_for : Paths → ℕ → List ℕ → List Source → List (List ℕ) → List Source × Sought
look_for files max file sources [] = (sources, sought.Nowhere)
look_for files max file sources (root ∷ roots) =
    sought_at (root ++ file) sources (look_for files max file (sources ++ absent_at (root ++ file) ∷ []) roots) (read_of (at_path files (root ++ file)) max)

-- a library, whose name is the one asked for
abbrev pub opened : LibName → List ℕ → List PlainDatum → LibraryForm → Result Opened Fault
opened name path ds form = if same_library form.name name then Ok (record { path = path; form = form; «data» = ds }) else Err (differs form)

-- the library that a source is
unfoldable pub library_in : LibName → List ℕ → List ℕ → Result Opened Fault
library_in name path held = data_of path held file_nesting >>= (λ ds. read_library path ds >>= (λ form. opened name path ds form))

-- the program that a source is
unfoldable pub program_in : List ℕ → List ℕ → Result Opened Fault
program_in path held = data_of path held file_nesting >>= (λ ds. read_program path ds >>= (λ form. Ok (record { path = path; form = form; «data» = ds })))

abbrev pub begun : Loading → List ℕ → Opened → Loads (Opened × Loading)
begun s file o = Ok (o, with_begun s file)

abbrev pub opened_from : Loading → ImportSet → Sought → Loads (Opened × Loading)
opened_from s set sought.Nowhere = Err (s, about kind.LibraryNotFound set)
opened_from s set (sought.Longer path) = Err (s, at_start kind.TooLong path [])
opened_from s set (sought.Bytes path held) =
    lifted (with_source s path held) (library_in set.library path held) >>= (λ o. begun (with_source s path held) (file_of set.library) o)

abbrev pub opened_with : Loading → ImportSet → List Source × Sought → Loads (Opened × Loading)
opened_with s set looked = opened_from (with_sources s looked.0) set looked.1

-- the file of a library that is not begun yet
unfoldable pub open_file : Paths → List (List ℕ) → ImportSet → Loading → Loads (Opened × Loading)
open_file files roots set s =
    if nat_le most_libraries (length s.begun) then Err (s, too_many set)
    else opened_with s set (look_for files (most s.bytes) (file_of set.library) s.sources roots)

-- ---- a reference

-- the version of each library that this implementation gives
abbrev pub builtin_version : List ℕ
builtin_version = 6 ∷ []

abbrev pub fitting : {A : Type 0} → List ℕ → ImportSet → A → Result A Fault
fitting version set x = if version_fits version set.version then Ok x else Err (about kind.VersionRefused set)

abbrev pub by_begun : ImportSet → Bool → Result Known Fault
by_begun set true = Err (about kind.ImportCycle set)
by_begun set false = Ok known.New

-- what a library needs comes to what is needed once, with the first reference to it
abbrev pub joined : List Bool → Found → Known
joined needs found = if is_marked (slice_get needs found.place) then known.Joined else known.Loaded (with_needs needs found)

abbrev pub by_done : Loading → List Bool → ImportSet → Option Found → Result Known Fault
by_done s needs set None = by_begun set (is_some (value_of (file_of set.library) s.begun))
by_done s needs set (Some found) = fitting found.opened.form.version set (joined needs found)

-- what is known of the library that a reference names: it is given with the implementation, it is loaded, it is being
-- loaded, which is a cycle, or it is new
unfoldable pub known_of : Loading → List Bool → ImportSet → Result Known Fault
known_of s needs set =
    if is_some (exports set.library) then fitting builtin_version set known.Builtin
    else by_done s needs set (value_of (file_of set.library) s.done)

-- a library that was new is loaded now, and its version is looked at
unfoldable pub settled : ImportSet → List Bool → Found → Loading → Loads (List Bool × Loading)
settled set needs found s =
    lifted (with_done s (file_of set.library) found) (fitting found.opened.form.version set (with_needs needs found, with_done s (file_of set.library) found))

-- ---- the files inside a file

-- how a file is loaded that was read
abbrev pub Loader : Type 0
Loader = Opened → Loading → Loads (Found × Loading)

module _ (files : Paths) (roots : List (List ℕ)) where
  -- a file is loaded inside another, if there is room
  abbrev pub load_new : Option Loader → List Bool → Loading → ImportSet → Loads (List Bool × Loading)
  load_new None needs s set = Err (s, too_many set)
  load_new (Some load) needs s set = open_file files roots set s >>= (λ o. load o.0 o.1 >>= (λ l. settled set needs l.0 l.1))

  abbrev pub refer_to : Option Loader → List Bool → Loading → ImportSet → Result Known Fault → Loads (List Bool × Loading)
  refer_to inside needs s set (Err f) = Err (s, f)
  refer_to inside needs s set (Ok known.Builtin) = Ok (needs, s)
  refer_to inside needs s set (Ok known.Joined) = Ok (needs, s)
  refer_to inside needs s set (Ok (known.Loaded more)) = Ok (more, s)
  refer_to inside needs s set (Ok known.New) = load_new inside needs s set

  abbrev pub refer : Option Loader → List Bool → Loading → ImportSet → Loads (List Bool × Loading)
  refer inside needs s set = refer_to inside needs s set (known_of s needs set)

  -- the imports of a file, one after another
  unfoldable pub refer_each : Option Loader → List Bool → Loading → List Import → Loads (List Bool × Loading)
  refer_each inside needs s [] = Ok (needs, s)
  refer_each inside needs s (i ∷ is) = refer inside needs s i.set >>= (λ n. refer_each inside n.0 n.1 is)

  -- a file and all that it imports, after these
  abbrev pub load_with : Option Loader → Loader
  load_with inside o s = refer_each inside no_needs s o.form.imports >>= (λ n. Ok (found_of o n.0 n.1, n.1))

  -- so many files may be opened one inside another
  unfoldable pub load_file : ℕ → Loader
  load_file zero = load_with None
  load_file (suc room) = load_with (Some (load_file room))

  -- ---- the program

  abbrev pub program_from : List ℕ → Reading → Loads (Found × Loading)
  program_from path absent = Err (nothing_loaded, at_start kind.LibraryNotFound path (path ∷ []))
  program_from path longer = Err (nothing_loaded, at_start kind.TooLong path [])
  program_from path (bytes held) =
      lifted (with_source nothing_loaded path held) (program_in path held) >>= (λ o. load_file most_libraries o (with_source nothing_loaded path held))

  -- the libraries that a program imports, directly or not, each after those that it imports, and the program
  unfoldable pub load : List ℕ → Loads (Found × Loading)
  load path = program_from path (read_of (at_path files path) file_limit)
