-- Export specs (R6RS 7.1).
use Rattle.std.specs.Prelude.{ℕ, List, [], ◌∷◌, ◌++◌, Option, Some, None, Result, Ok, Err, if◌then◌else◌, codes}
use Rattle.base_data.specs.Datum.{PlainDatum, proper_elements}
use Rattle.base_data.specs.declared.fault.Fault.{Fault}
use Rattle.base_data.specs.declared.fault.FaultKind.TheVariants.{ExportTwice}
use Rattle.load_import.specs.Table.{same_text, value_of}
use Rattle.load_import.specs.Turns.{turns}
use Rattle.load_import.specs.declared.set.NameAt.{NameAt}
use Rattle.load_forms.specs.All.{given, all_of}
use Rattle.load_forms.specs.Words.{is_word}
use Rattle.load_forms.specs.Set.{name_at}
use Rattle.load_forms.specs.declared.export.Export.{Export}

abbrev pub exported_as : Option NameAt → Option NameAt → Option Export
exported_as None external = None
exported_as (Some internal) None = None
exported_as (Some internal) (Some external) = Some (record { internal = internal; external = external })

abbrev pub export_pair_in : List ℕ → List PlainDatum → Option Export
export_pair_in file [] = None
export_pair_in file (d ∷ []) = None
export_pair_in file (d ∷ e ∷ []) = exported_as (name_at file d) (name_at file e)
export_pair_in file (d ∷ e ∷ f ∷ ds) = None

abbrev pub export_pair : List ℕ → PlainDatum → Option Export
export_pair file d = given (proper_elements d) (export_pair_in file)

abbrev pub export_renames : List ℕ → List PlainDatum → Option (List Export)
export_renames file [] = None
export_renames file (d ∷ ds) = if is_word (codes "rename") d then all_of (export_pair file) [] ds else None

abbrev pub export_by : List ℕ → PlainDatum → Option NameAt → Option (List Export)
export_by file d (Some id) = Some (record { internal = id; external = id } ∷ [])
export_by file d None = given (proper_elements d) (export_renames file)

-- an identifier exports itself, and `rename` exports each internal name under an external one
abbrev pub export_spec : List ℕ → PlainDatum → Option (List Export)
export_spec file d = export_by file d (name_at file d)

-- external names with the internal ones
abbrev pub ExportList : Type 0
ExportList = List (List ℕ × NameAt)

abbrev pub export_twice : NameAt → Fault
export_twice external = record { kind = ExportTwice; span = external.span; words = external.name ∷ [] }

-- an external name that comes again with the same internal name is taken once
abbrev pub add_by : ExportList → Export → Option NameAt → Result ExportList Fault
add_by names e None = Ok (names ++ (e.external.name, e.internal) ∷ [])
add_by names e (Some internal) = if same_text internal.name e.internal.name then Ok names else Err (export_twice e.external)

abbrev pub add_export : ExportList → Export → Result ExportList Fault
add_export names e = add_by names e (value_of e.external.name names)

abbrev pub exported : List Export → Result ExportList Fault
exported es = turns add_export [] es
