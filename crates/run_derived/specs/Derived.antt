-- The derived library: the forms that are defined in terms of core forms (R6RS 11; libraries report 5 and 12), as a text that is expanded
-- before all other libraries of a run.
use Rattle.std.specs.Prelude.{ℕ, List, [], ◌∷◌, ◌++◌, Option, None, Some, Result, Ok, Err, if◌then◌else◌}
use Rattle.base_data.specs.Datum.{PlainDatum}
use Rattle.base_data.specs.Gives.{◌>>=◌}
use Rattle.base_data.specs.Same.{same_library}
use Rattle.base_data.specs.declared.fault.Fault.{Fault}
use Rattle.base_data.specs.declared.imported_name.ImportedName.{ImportedName}
use Rattle.base_data.specs.declared.library.LibName.TheVariants as library
use Rattle.base_data.specs.declared.name.Label.{Label}
use Rattle.load_builtin.specs.Exports.{derived}
use Rattle.load_builtin.specs.declared.derived.TheConstants.{DERIVED_SOURCE}
use Rattle.core_language.specs.declared.record.CompiledLibrary.{CompiledLibrary}
use Rattle.eval_code.specs.Codes.{Codes}
use Rattle.expand_forms.specs.Expanding.{ready, library_record, library_spent}
use Rattle.expand_forms.specs.declared.top.LibraryBody.{LibraryBody}
use Rattle.load_import.specs.Names.{label_named}
use Rattle.run_prelude.specs.Prelude.{at_place}
use Rattle.run_prelude.specs.Spent.{spent_behind}
use Rattle.read_reader.specs.Read.{data_of, file_nesting}
use Rattle.stx_tree.specs.Context.{blank}
use Rattle.stx_tree.specs.Leaves.{tree_of}
use Rattle.stx_tree.specs.Measures.{within}
use Rattle.stx_tree.specs.Tree.{Tree}
use Rattle.run_derived.specs.Names.{path, start, names, exports_of}

-- a datum as a tree; one that passes a limit is at fault at the start of the text
abbrev pub tree_at : PlainDatum → Result Tree Fault
tree_at d = at_place start (within (tree_of blank d))

abbrev pub trees : List Tree → List PlainDatum → Result (List Tree) Fault
trees done [] = Ok done
trees done (d ∷ ds) = tree_at d >>= (λ t. trees (done ++ t ∷ []) ds)

-- the forms of a text
unfoldable pub forms_of : List ℕ → Result (List Tree) Fault
forms_of text = data_of path text file_nesting >>= trees []

-- the body of the library, with these forms
abbrev pub derived_body : List Tree → LibraryBody
derived_body forms = record { path = path; version = []; place = start; exports = exports_of derived; forms = forms }

-- the record of these forms, behind no others
unfoldable pub record_of : Codes → List Tree → Result CompiledLibrary Fault
record_of codes forms = library_record (ready library.Derived [] names codes) [] (derived_body forms)

-- the record of the derived library; as in any library, what procedures mean that are texts comes after its forms
unfoldable pub derived_record : Result Codes Fault → Result CompiledLibrary Fault
derived_record prelude = forms_of DERIVED_SOURCE.now >>= (λ forms. prelude >>= (λ codes. record_of codes forms))

-- the fuel that the expansion of these forms spends
unfoldable pub record_spent : Codes → List Tree → ℕ
record_spent codes forms = library_spent (ready library.Derived [] names codes) [] (derived_body forms)

-- the fuel that the derived library's spends
unfoldable pub derived_spent : Result Codes Fault → ℕ
derived_spent prelude = spent_behind (forms_of DERIVED_SOURCE.now) (λ forms. spent_behind prelude (λ codes. record_spent codes forms))

-- What a derived name stands for: the label under which the record exports it.

abbrev pub label_or : Label → Option Label → Label
label_or l None = l
label_or l (Some m) = m

abbrev pub relabelled_in : CompiledLibrary → ImportedName → ImportedName
relabelled_in r e = if same_library e.label.0.library library.Derived then record { name = e.name; label = label_or e.label (label_named e.name r.exports) } else e
