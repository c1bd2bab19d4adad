-- Data that are no library and no program are refused as forms.
use Rattle.std.proofs.Common.{ℕ, List, [], ◌∷◌, ◌++◌, Option, Some, None, Result, Ok}
use Rattle.std.specs.Prelude.{codes}
use Rattle.base_data.specs.Datum.{PlainDatum}
use Rattle.base_data.specs.Gives.{◌>>=◌}
use Rattle.base_data.specs.declared.fault.Fault.{Fault}
use Rattle.base_data.specs.declared.span.Span.{Span}
use Rattle.load_import.specs.Table.{same_text, value_of}
use Rattle.load_import.specs.declared.set.NameAt.{NameAt}
use Rattle.load_forms.specs.Export.{ExportList, export_spec, add_by, add_export, exported}
use Rattle.load_forms.specs.Form.{form_of, not_library, bad_form, or_fault, import_specs, export_specs, library_with, library_of, library_parts, library_in, program_of}
use Rattle.load_forms.specs.Name.{named}
use Rattle.load_forms.specs.Set.{datum_place, import_spec}
use Rattle.load_forms.specs.declared.export.Export.{Export}
use Rattle.load_forms.specs.declared.name.VersionedName.{VersionedName}
use Rattle.load_forms.specs.declared.set.Import.{Import}
use Rattle.law_kinds.specs.Kinds.{IsOfForms, Tells}
use Rattle.law_kinds.specs.Laws.{LibrariesTell, ProgramsTell}
use Rattle.law_kinds.proofs.Tells.{tells-if, tells-then, tells-turns}

or-at-fault : {A B : Type 0} (f : Fault) (o : Option A) (go : A → Result B Fault) → IsOfForms f.kind → ((a : A) → Tells IsOfForms (go a)) → Tells IsOfForms (or_fault f o go)
or-at-fault f None go h k = h
or-at-fault f (Some a) go h k = k a

f-then : {A B : Type 0} (r : Result A Fault) (go : A → Result B Fault) → Tells IsOfForms r → ((x : A) → Tells IsOfForms (go x)) → Tells IsOfForms (r >>= go)
f-then r go h k = tells-then IsOfForms r go h k

specs : (file : List ℕ) (done : List Import) (ds : List PlainDatum) → Tells IsOfForms (import_specs file done ds)
specs file done [] = tt
specs file done (d ∷ ds) = or-at-fault (bad_form file d) (import_spec file d) (λ i. import_specs file (done ++ i ∷ []) ds) tt (λ i. specs file (done ++ i ∷ []) ds)

exports : (file : List ℕ) (done : List Export) (ds : List PlainDatum) → Tells IsOfForms (export_specs file done ds)
exports file done [] = tt
exports file done (d ∷ ds) = or-at-fault (bad_form file d) (export_spec file d) (λ es. export_specs file (done ++ es) ds) tt (λ es. exports file (done ++ es) ds)

add : (names : ExportList) (e : Export) → Tells IsOfForms (add_export names e)
add names e = by (value_of e.external.name names)
  where
    by : (o : Option NameAt) → Tells IsOfForms (add_by names e o)
    by None = tt
    by (Some internal) = tells-if IsOfForms (same_text internal.name e.internal.name) _ _ tt tt

library : (file : List ℕ) (place : Span) (es is : List PlainDatum) (n : VersionedName) → Tells IsOfForms (library_of file place es is n)
library file place es is n =
    f-then (export_specs file [] es) (λ xs. import_specs file [] is >>= (λ ys. exported xs >>= (λ names. Ok (library_with n place ys names)))) (exports file [] es)
    (λ xs. f-then (import_specs file [] is) (λ ys. exported xs >>= (λ names. Ok (library_with n place ys names))) (specs file [] is)
    (λ ys. f-then (exported xs) (λ names. Ok (library_with n place ys names)) (tells-turns IsOfForms add_export add [] xs) (λ names. tt)))

parts : (file : List ℕ) (f : Fault) (name : PlainDatum) (n : Option VersionedName) (es is : Option (List PlainDatum)) → IsOfForms f.kind → Tells IsOfForms (library_parts file f name n es is)
parts file f name None es is h = h
parts file f name (Some n) None is h = h
parts file f name (Some n) (Some es) None h = h
parts file f name (Some n) (Some es) (Some is) h = library file (datum_place file name) es is n

inside : (file : List ℕ) (f : Fault) (ds : List PlainDatum) → IsOfForms f.kind → Tells IsOfForms (library_in file f ds)
inside file f [] h = h
inside file f (name ∷ []) h = h
inside file f (name ∷ es ∷ []) h = h
inside file f (name ∷ es ∷ is ∷ body) h = parts file f name (named name) (form_of (codes "export") es) (form_of (codes "import") is) h

pub libraries-tell : LibrariesTell
libraries-tell file [] = tt
libraries-tell file (d ∷ []) =
    or-at-fault (not_library file (d ∷ [])) (form_of (codes "library") d) (library_in file (not_library file (d ∷ []))) tt (λ ds. inside file (not_library file (d ∷ [])) ds tt)
libraries-tell file (d ∷ e ∷ ds) = tt

program : (file : List ℕ) (place : Span) (is : List PlainDatum) → Tells IsOfForms (program_of file place is)
program file place is = f-then (import_specs file [] is) _ (specs file [] is) (λ ys. tt)

pub programs-tell : ProgramsTell
programs-tell file [] = tt
programs-tell file (d ∷ ds) = or-at-fault (not_library file (d ∷ ds)) (form_of (codes "import") d) (program_of file (datum_place file d)) tt (λ is. program file (datum_place file d) is)
