-- The records of the libraries in a list of sources, each behind those that it needs. Nothing is looked for: a list tells
-- all that is there, imports first.
use Rattle.std.specs.Prelude.{ℕ, Bool, false, List, [], ◌∷◌, ◌++◌, length, replicate, Option, Some, None, is_some, Result, Ok, if◌then◌else◌}
use Rattle.base_data.specs.Gives.{◌>>=◌}
use Rattle.base_data.specs.declared.fault.Fault.{Fault}
use Rattle.load_builtin.specs.Exports.{exports}
use Rattle.core_language.specs.declared.record.CompiledLibrary.{CompiledLibrary}
use Rattle.eval_code.specs.Codes.{Codes}
use Rattle.load_file_names.specs.File.{file_of}
use Rattle.load_forms.specs.Form.{read_library}
use Rattle.load_forms.specs.declared.set.Import.{Import}
use Rattle.load_import.specs.Table.{value_of}
use Rattle.load_import.specs.Turns.{turns}
use Rattle.load_import.specs.declared.set.ImportSet.{ImportSet}
use Rattle.run_library.specs.Loaded.{all_records}
use Rattle.load_files.specs.Found.{with_needs}
use Rattle.load_files.specs.declared.found.Found.{Found}
use Rattle.load_files.specs.declared.found.Opened.{Opened}
use Rattle.load_files.specs.declared.found.Source.{Source}
use Rattle.law_load.specs.Laws.{Libraries}
use Rattle.read_reader.specs.Read.{data_of}

-- ---- what stands in the sources

-- the library that a source is, whatever its name
unfoldable pub library_at : List ℕ → List ℕ → Result Opened Fault
library_at path held = data_of path held 500 >>= (λ ds. read_library path ds >>= (λ form. Ok (record { path = path; form = form; «data» = ds })))

-- at a path where no file is there is no library
abbrev pub open_held : List Opened → List ℕ → Option (List ℕ) → Result (List Opened) Fault
open_held done path None = Ok done
open_held done path (Some held) = library_at path held >>= (λ o. Ok (done ++ o ∷ []))

abbrev pub open_next : List Opened → Source → Result (List Opened) Fault
open_next done source = open_held done source.path source.held

abbrev pub opened_of : List Source → Result (List Opened) Fault
opened_of sources = turns open_next [] sources

-- ---- which libraries each needs

abbrev pub marks_of : List Bool → Option Found → List Bool
marks_of needs None = needs
marks_of needs (Some found) = with_needs needs found

-- an import needs the library of its file and what that needs, unless the implementation gives it
abbrev pub with_import : Libraries → List Bool → ImportSet → List Bool
with_import rows needs set = if is_some (exports set.library) then needs else marks_of needs (value_of (file_of set.library) rows)

unfoldable pub with_imports : Libraries → List Bool → List Import → List Bool
with_imports rows needs [] = needs
with_imports rows needs (i ∷ is) = with_imports rows (with_import rows needs i.set) is

unfoldable pub unmarked : ℕ → List Bool
unmarked count = replicate count false

-- a library behind others
abbrev pub found_behind : Libraries → Opened → Found
found_behind rows o = record { opened = o; place = length rows; needs = with_imports rows (unmarked (length rows)) o.form.imports }

abbrev pub row_behind : Libraries → Opened → List ℕ × Found
row_behind rows o = (file_of o.form.name, found_behind rows o)

abbrev pub rows_behind : Libraries → List Opened → Libraries
rows_behind rows [] = rows
rows_behind rows (o ∷ os) = rows_behind (rows ++ row_behind rows o ∷ []) os

-- ---- their records

-- each library of the list is expanded behind the records of those before it that it needs
unfoldable pub records_of : Result Codes Fault → List Source → Result (List CompiledLibrary) Fault
records_of prelude sources = opened_of sources >>= (λ os. all_records prelude (rows_behind [] os))
