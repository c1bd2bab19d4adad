-- The record of a library or a program, from its form (R6RS 7.1 and 8).
use Rattle.std.specs.Prelude.{ℕ, List, [], ◌∷◌, ◌++◌, map, Option, None, Some, Result, Ok, Err}
use Rattle.base_data.specs.Datum.{PlainDatum, span_of}
use Rattle.base_data.specs.Gives.{◌>>=◌}
use Rattle.base_data.specs.declared.fault.Bare.{Bare}
use Rattle.base_data.specs.declared.fault.Fault.{Fault}
use Rattle.base_data.specs.declared.imported_name.ImportedName.{ImportedName}
use Rattle.base_data.specs.declared.span.Span.{Span}
use Rattle.stx_tree.specs.Context.{blank}
use Rattle.stx_tree.specs.Measures.{within}
use Rattle.stx_tree.specs.Tree.{Tree, leaf}
use Rattle.stx_tree.specs.Leaves.{tree_of}
use Rattle.core_language.specs.declared.record.CompiledLibrary.{CompiledLibrary}
use Rattle.load_import.specs.declared.set.NameAt.{NameAt}
use Rattle.load_forms.specs.declared.form.LibraryForm.{LibraryForm}
use Rattle.eval_code.specs.Codes.{Codes}
use Rattle.base_data.specs.declared.library.LibName.{LibName}
use Rattle.expand_forms.specs.Expanding.{Expanding, ready, library_record, library_linked, library_spent}
use Rattle.expand_forms.specs.declared.top.LibraryBody.{LibraryBody}
use Rattle.expand_forms.specs.declared.top.Linked.{Linked}
use Rattle.run_prelude.specs.Spent.{spent_behind}
use Rattle.run_library.specs.Imports.{form_names}
use Rattle.run_library.specs.declared.library.Unexpanded.{Unexpanded}

-- ---- what stands in the file, as syntax trees

abbrev pub span_or : Span → Option Span → Span
span_or place None = place
span_or place (Some span) = span

abbrev pub at_datum : Span → PlainDatum → Bare → Fault
at_datum place d bare = record { kind = bare.kind; span = span_or place (span_of d); words = bare.words }

abbrev pub placed : Span → PlainDatum → Result Tree Bare → Result Tree Fault
placed place d (Ok t) = Ok t
placed place d (Err bare) = Err (at_datum place d bare)

-- a datum as a tree, whose symbols are leaves without marks and stamps; one that passes a limit is at fault
abbrev pub tree_at : Span → PlainDatum → Result Tree Fault
tree_at place d = placed place d (within (tree_of blank d))

abbrev pub trees_at : Span → List Tree → List PlainDatum → Result (List Tree) Fault
trees_at place done [] = Ok done
trees_at place done (d ∷ ds) = tree_at place d >>= (λ t. trees_at place (done ++ t ∷ []) ds)

-- an exported identifier, with its external name
abbrev pub export_tree : List ℕ × NameAt → List ℕ × Tree
export_tree e = (e.0, leaf (Some e.1.span) e.1.name blank)

-- ---- the record

-- the body of a library or program, from its form and the forms of its body
abbrev pub body_with : List ℕ → LibraryForm → List Tree → LibraryBody
body_with path form forms = record { path = path; version = form.version; place = form.name_span; exports = map export_tree form.exports; forms = forms }

abbrev pub body_in : List ℕ → LibraryForm → List PlainDatum → Result LibraryBody Fault
body_in path form body = trees_at form.name_span [] body >>= (λ forms. Ok (body_with path form forms))

-- an expander behind these records, which knows what the procedures mean that are texts
abbrev pub expander_of : Result Codes Fault → LibName → List CompiledLibrary → List ImportedName → Result Expanding Fault
expander_of prelude name records names = prelude >>= (λ codes. Ok (ready name records names codes))

-- the names that the form imports, and its body
unfoldable pub body_of : List CompiledLibrary → List ℕ → LibraryForm → List PlainDatum → Result Unexpanded Fault
body_of records path form body =
    form_names records form.imports >>= (λ names.
    body_in path form body >>= (λ read. Ok (record { name = form.name; imports = names; body = read })))

-- what procedures mean that are texts, and then the body, after these records: its record and its links
unfoldable pub expand_body : Result Codes Fault → List CompiledLibrary → Unexpanded → Result Linked Fault
expand_body prelude records read = expander_of prelude read.name records read.imports >>= (λ e. library_linked e records read.body)

-- the names that the form imports, the forms of its body, what procedures mean that are texts, and then the body, after these records
unfoldable pub expand_library : Result Codes Fault → List CompiledLibrary → List ℕ → LibraryForm → List PlainDatum → Result CompiledLibrary Fault
expand_library prelude records path form body =
    form_names records form.imports >>= (λ names.
    trees_at form.name_span [] body >>= (λ forms.
    expander_of prelude form.name records names >>= (λ e.
    library_record e records (body_with path form forms))))

-- the same, with the links of its expansion
unfoldable pub link_library : Result Codes Fault → List CompiledLibrary → List ℕ → LibraryForm → List PlainDatum → Result Linked Fault
link_library prelude records path form body =
    form_names records form.imports >>= (λ names.
    trees_at form.name_span [] body >>= (λ forms.
    expander_of prelude form.name records names >>= (λ e.
    library_linked e records (body_with path form forms))))

-- ---- the fuel

-- what the expansion of the body spends
unfoldable pub body_spent : Result Codes Fault → List CompiledLibrary → Unexpanded → ℕ
body_spent prelude records read = spent_behind (expander_of prelude read.name records read.imports) (λ e. library_spent e records read.body)

-- what that of a library or a program spends, after these records
unfoldable pub form_spent : Result Codes Fault → List CompiledLibrary → List ℕ → LibraryForm → List PlainDatum → ℕ
form_spent prelude records path form body = spent_behind (body_of records path form body) (body_spent prelude records)

-- ---- a record alone

abbrev pub unlinked : Result Linked Fault → Result CompiledLibrary Fault
unlinked (Ok l) = Ok l.library
unlinked (Err f) = Err f
