-- The kinds of fault that come before expansion, by what is at fault.
use Rattle.std.specs.Prelude.{◌⊎◌, Result, Ok, Err}
use Rattle.base_data.specs.declared.fault.Fault.{Fault}
use Rattle.base_data.specs.declared.fault.FaultKind.{FaultKind}
use Rattle.base_data.specs.declared.fault.FaultKind.TheVariants as kind

-- bytes spell no data (R6RS 4)
abbrev pub IsOfReading : FaultKind → Type 0
IsOfReading kind.BadUtf8 = Unit {0}
IsOfReading kind.BadToken = Unit {0}
IsOfReading kind.BadNumber = Unit {0}
IsOfReading kind.BadEscape = Unit {0}
IsOfReading kind.Unclosed = Unit {0}
IsOfReading kind.StrayClose = Unit {0}
IsOfReading kind.BadDot = Unit {0}
IsOfReading kind.TooNested = Unit {0}
IsOfReading _ = ⊥

-- data are no library and no program (R6RS 7.1 and 8.1)
abbrev pub IsOfForms : FaultKind → Type 0
IsOfForms kind.NotLibrary = Unit {0}
IsOfForms kind.BadForm = Unit {0}
IsOfForms kind.ExportTwice = Unit {0}
IsOfForms _ = ⊥

-- a reference finds no library, or one that may not stand there (R6RS 7.1 and 7.2)
abbrev pub IsOfReferences : FaultKind → Type 0
IsOfReferences kind.TooLong = Unit {0}
IsOfReferences kind.NameDiffers = Unit {0}
IsOfReferences kind.LibraryNotFound = Unit {0}
IsOfReferences kind.VersionRefused = Unit {0}
IsOfReferences kind.ImportCycle = Unit {0}
IsOfReferences kind.TooManyLibraries = Unit {0}
IsOfReferences _ = ⊥

-- an import set names what isn't there, or one name would stand for two labels (R6RS 7.1)
abbrev pub IsOfImports : FaultKind → Type 0
IsOfImports kind.ImportNameMissing = Unit {0}
IsOfImports kind.ImportConflict = Unit {0}
IsOfImports _ = ⊥

-- a program can't be loaded with all that it imports
abbrev pub IsOfLoading : FaultKind → Type 0
IsOfLoading k = IsOfReading k ⊎ (IsOfForms k ⊎ IsOfReferences k)

-- where there is a fault, its kind is one of these
abbrev pub Tells : {A : Type 0} → (FaultKind → Type 0) → Result A Fault → Type 0
Tells IsOf (Ok x) = Unit {0}
Tells IsOf (Err f) = IsOf f.kind
