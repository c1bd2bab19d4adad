-- Which kinds of fault come before expansion.
use Rattle.std.specs.Prelude.{ℕ, List, Ok, Err}
use Rattle.base_data.specs.Datum.{PlainDatum}
use Rattle.base_data.specs.declared.fault.FaultKind.{FaultKind}
use Rattle.base_data.specs.declared.span.Span.{Span}
use Rattle.load_forms.specs.Form.{read_library, read_program}
use Rattle.load_import.specs.Names.{Labelled, import_names, joined}
use Rattle.load_import.specs.declared.set.ImportSet.{ImportSet}
use Rattle.load_files.specs.Load.{Loads, load}
use Rattle.base_outside.specs.Contents.{Paths}
use Rattle.read_reader.specs.Read.{data_of}
use Rattle.law_kinds.specs.Kinds.{IsOfReading, IsOfForms, IsOfImports, IsOfLoading, Tells}

-- bytes are read, or spell no data
abbrev pub ReadingTells : Type 0
ReadingTells = (file bytes : List ℕ) (nesting : ℕ) → Tells IsOfReading (data_of file bytes nesting)

-- data are a library or a program, or none
abbrev pub LibrariesTell : Type 0
LibrariesTell = (file : List ℕ) (ds : List PlainDatum) → Tells IsOfForms (read_library file ds)

abbrev pub ProgramsTell : Type 0
ProgramsTell = (file : List ℕ) (ds : List PlainDatum) → Tells IsOfForms (read_program file ds)

-- an import set gives names, and names are joined to others, or one of them isn't there or would stand for two labels
abbrev pub ImportsTell : Type 0
ImportsTell = (set : ImportSet) (span : Span) (exports : Labelled) → Tells IsOfImports (import_names set span exports)

abbrev pub JoinsTell : Type 0
JoinsTell = (span : Span) (names more : Labelled) → Tells IsOfImports (joined span names more)

-- where loading is at fault, the kind is one of these
abbrev pub LoadTells : {A : Type 0} → (FaultKind → Type 0) → Loads A → Type 0
LoadTells IsOf (Ok x) = Unit {0}
LoadTells IsOf (Err e) = IsOf e.1.kind

-- a program is loaded with all that it imports, or a file of them isn't there, is no library, or may not stand there
abbrev pub LoadingTells : Type 0
LoadingTells = (files : Paths) (roots : List (List ℕ)) (path : List ℕ) → LoadTells IsOfLoading (load files roots path)
