-- A form that is read exports each name once: a library form each external name at its first place, and a program none.
use Rattle.std.proofs.Common.{◌≡◌, ℕ, Bool, true, false, List, [], ◌∷◌, ◌++◌, Result, Ok, Err, Option, Some, None, refl, sym, ap, subst, cond, ◌∙◌, inl, inr}
use Rattle.std.specs.Prelude.{map, codes, if◌then◌else◌}
use Rattle.base_data.specs.Datum.{PlainDatum}
use Rattle.base_data.specs.Elements.{Each, Among, Once}
use Rattle.base_data.specs.Gives.{◌>>=◌}
use Rattle.base_data.specs.declared.fault.Fault.{Fault}
use Rattle.base_data.specs.declared.imported_name.ImportedName.{ImportedName}
use Rattle.base_data.specs.declared.library.LibName.TheVariants as library
use Rattle.base_data.specs.declared.name.Label.{Label}
use Rattle.base_data.specs.declared.span.Span.{Span}
use Rattle.law_core.proofs.Decisions.{text_decides}
use Rattle.law_expand.proofs.Fresh.{once-append}
use Rattle.load_forms.specs.Export.{ExportList, export_twice, add_by, add_export, exported}
use Rattle.load_forms.specs.Form.{form_of, not_library, or_fault, import_specs, export_specs, library_with, library_of, library_parts, library_in, read_library, program_of, read_program}
use Rattle.load_forms.specs.Name.{named}
use Rattle.load_forms.specs.Set.{datum_place}
use Rattle.load_forms.specs.declared.export.Export.{Export}
use Rattle.load_forms.specs.declared.form.LibraryForm.{LibraryForm}
use Rattle.load_forms.specs.declared.name.VersionedName.{VersionedName}
use Rattle.load_forms.specs.declared.set.Import.{Import}
use Rattle.load_import.specs.Names.{label_named}
use Rattle.load_import.specs.Table.{same_text, value_of}
use Rattle.load_import.specs.declared.set.NameAt.{NameAt}
use Rattle.load_files.specs.Found.{nothing_loaded, with_source, most_libraries}
use Rattle.load_files.specs.Load.{Loads, lifted, file_limit, program_in, load_file, program_from, load}
use Rattle.load_files.specs.declared.found.Found.{Found}
use Rattle.load_files.specs.declared.found.Loading.{Loading}
use Rattle.load_files.specs.declared.found.Opened.{Opened}
use Rattle.law_load.specs.Laws.{IsAt}
use Rattle.law_load.proofs.Invariant.{nothing_sound}
use Rattle.law_load.proofs.LoadLemmas.{loads_file}
use Rattle.law_load.proofs.OpenLemmas.{Ends, ends_ok}
use Rattle.law_load.proofs.ReferLemmas.{IsSound, IsLoaded}
use Rattle.law_load.proofs.RootLemmas.{stand_below}
use Rattle.law_load.proofs.SourceLemmas.{library_is}
use Rattle.base_outside.specs.Contents.{Paths, at_path, Reading, bytes, longer, absent, read_of}
use Rattle.read_reader.specs.Read.{data_of, file_nesting}
use Rattle.law_run.proofs.ImportLemmas.{turns_keep}

-- ---- names that stand once in a list with values

abbrev pub names_in : {V : Type 0} → List (List ℕ × V) → List (List ℕ)
names_in {V} rows = map (λ (e : List ℕ × V). e.0) rows

-- a name that stands there has a value
pub has_value : {V : Type 0} (name : List ℕ) (rows : List (List ℕ × V)) → Among (names_in rows) name → value_of name rows ≡ None → ⊥
has_value name [] a e = elim a [ ]
has_value {V} name (row ∷ rows) (inl is) e =
    let yes : same_text name row.0 ≡ true = (text_decides name row.0).1 is in
    let none : ◌≡◌ {A = Option V} (Some row.1) None = sym (ap (λ b. cond b (Some row.1) (value_of name rows)) yes) ∙ e in
    absurd (cc)
has_value {V} name (row ∷ rows) (inr a) e = by (same_text name row.0) e (has_value name rows a)
  where
    by : (b : Bool) → ◌≡◌ {A = Option V} (cond b (Some row.1) (value_of name rows)) None → (value_of name rows ≡ None → ⊥) → ⊥
    by true e rest = absurd (cc)
    by false e rest = rest e

-- the names of imports
abbrev pub imported_names : List ImportedName → List (List ℕ)
imported_names es = map (λ (e : ImportedName). e.name) es

-- a name that stands there has a label
pub has_label_named : (name : List ℕ) (es : List ImportedName) → Among (imported_names es) name → label_named name es ≡ None → ⊥
has_label_named name [] a h = elim a [ ]
has_label_named name (e ∷ es) (inl is) h =
    let yes : same_text name e.name ≡ true = (text_decides name e.name).1 is in
    let none : ◌≡◌ {A = Option Label} (Some e.label) None = sym (ap (λ b. cond b (Some e.label) (label_named name es)) yes) ∙ h in
    absurd (cc)
has_label_named name (e ∷ es) (inr a) h = by (same_text name e.name) h (has_label_named name es a)
  where
    by : (b : Bool) → ◌≡◌ {A = Option Label} (cond b (Some e.label) (label_named name es)) None → (label_named name es ≡ None → ⊥) → ⊥
    by true h rest = absurd (cc)
    by false h rest = rest h

names_parts : {V : Type 0} (xs ys : List (List ℕ × V)) → names_in (xs ++ ys) ≡ names_in xs ++ names_in ys
names_parts [] ys = refl
names_parts (x ∷ xs) ys = ap (λ ns. x.0 ∷ ns) (names_parts xs ys)

once_more : {V : Type 0} (rows : List (List ℕ × V)) (name : List ℕ) (v : V) → Once (names_in rows) → value_of name rows ≡ None → Once (names_in (rows ++ (name, v) ∷ []))
once_more rows name v once none =
    subst Once (sym (names_parts rows ((name, v) ∷ [])))
    (once-append (names_in rows) (name ∷ []) once ((λ a. elim a [ ]), tt) (λ x a b. last x a b))
  where
    last : (x : List ℕ) → Among (names_in rows) x → Among (name ∷ []) x → ⊥
    last x a (inl e) = has_value name rows (subst (Among (names_in rows)) e a) none
    last x a (inr b) = elim b [ ]

-- ---- the names that a form exports

abbrev pub ExportsOnce : LibraryForm → Type 0
ExportsOnce form = Once (names_in form.exports)

one_more : (names more : ExportList) (e : Export) → Once (names_in names) → add_export names e ≡ Ok more → Once (names_in more)
one_more names more e once h = by (value_of e.external.name names) refl h
  where
    again : (b : Bool) → ◌≡◌ {A = Result ExportList Fault} (if b then Ok names else Err (export_twice e.external)) (Ok more) → Once (names_in more)
    again true k = let same : names ≡ more = cc in subst (λ (es : ExportList). Once (names_in es)) same once
    again false k = absurd (cc)

    by : (o : Option NameAt) → value_of e.external.name names ≡ o → add_by names e o ≡ Ok more → Once (names_in more)
    by None none k =
        let same : names ++ (e.external.name, e.internal) ∷ [] ≡ more = cc in
        subst (λ (es : ExportList). Once (names_in es)) same (once_more names e.external.name e.internal once none)
    by (Some internal) there k = again (same_text internal.name e.internal.name) k

each_any : (es : List Export) → Each (λ e. Unit {0}) es
each_any [] = tt
each_any (e ∷ es) = (tt, each_any es)

exported_once : (es : List Export) (names : ExportList) → exported es ≡ Ok names → Once (names_in names)
exported_once es names h = turns_keep add_export (λ (xs : ExportList). Once (names_in xs)) (λ e. Unit {0}) (λ xs ys e o q k. one_more xs ys e o k) es [] names (each_any es) tt h

module _ (file : List ℕ) (f : LibraryForm) where
  form_once : (place : Span) (exports imports : List PlainDatum) (n : VersionedName) → library_of file place exports imports n ≡ Ok f → ExportsOnce f
  form_once place exports imports n h = by_exports (export_specs file [] exports) h
    where
      by_names : (es : List Export) (is : List Import) (x : Result ExportList Fault) → exported es ≡ x → (x >>= (λ names. Ok (library_with n place is names))) ≡ Ok f → ExportsOnce f
      by_names es is (Ok names) e h = let same : library_with n place is names ≡ f = cc in subst ExportsOnce same (exported_once es names e)
      by_names es is (Err g) e h = absurd (cc)

      by_imports : (es : List Export) (x : Result (List Import) Fault) → (x >>= (λ is. exported es >>= (λ names. Ok (library_with n place is names)))) ≡ Ok f → ExportsOnce f
      by_imports es (Ok is) h = by_names es is (exported es) refl h
      by_imports es (Err g) h = absurd (cc)

      by_exports : (x : Result (List Export) Fault)
          → (x >>= (λ es. import_specs file [] imports >>= (λ is. exported es >>= (λ names. Ok (library_with n place is names))))) ≡ Ok f → ExportsOnce f
      by_exports (Ok es) h = by_imports es (import_specs file [] imports) h
      by_exports (Err g) h = absurd (cc)

  parts_once : (fault : Fault) (name : PlainDatum) (n : Option VersionedName) (exports imports : Option (List PlainDatum)) → library_parts file fault name n exports imports ≡ Ok f → ExportsOnce f
  parts_once fault name None exports imports h = absurd (cc)
  parts_once fault name (Some n) None imports h = absurd (cc)
  parts_once fault name (Some n) (Some es) None h = absurd (cc)
  parts_once fault name (Some n) (Some es) (Some is) h = form_once (datum_place file name) es is n h

  in_once : (fault : Fault) (ds : List PlainDatum) → library_in file fault ds ≡ Ok f → ExportsOnce f
  in_once fault [] h = absurd (cc)
  in_once fault (name ∷ []) h = absurd (cc)
  in_once fault (name ∷ exports ∷ []) h = absurd (cc)
  in_once fault (name ∷ exports ∷ imports ∷ body) h = parts_once fault name (named name) (form_of (codes "export") exports) (form_of (codes "import") imports) h

  read_once : (ds : List PlainDatum) → read_library file ds ≡ Ok f → ExportsOnce f
  read_once [] h = absurd (cc)
  read_once (d ∷ []) h = by (form_of (codes "library") d) h
    where
      by : (o : Option (List PlainDatum)) → or_fault (not_library file (d ∷ [])) o (library_in file (not_library file (d ∷ []))) ≡ Ok f → ExportsOnce f
      by None h = absurd (cc)
      by (Some ds) h = in_once (not_library file (d ∷ [])) ds h
  read_once (d ∷ e ∷ ds) h = absurd (cc)

  program_once : (ds : List PlainDatum) → read_program file ds ≡ Ok f → ExportsOnce f
  program_once [] h = absurd (cc)
  program_once (d ∷ ds) h = by (form_of (codes "import") d) h
    where
      by_imports : (x : Result (List Import) Fault)
          → (x >>= (λ is. Ok (record { name = library.Program; name_span = datum_place file d; version = []; exports = []; imports = is }))) ≡ Ok f → ExportsOnce f
      by_imports (Ok is) h =
          let same : ◌≡◌ {A = LibraryForm} (record { name = library.Program; name_span = datum_place file d; version = []; exports = []; imports = is }) f = cc in
          subst ExportsOnce same tt
      by_imports (Err g) h = absurd (cc)

      by : (o : Option (List PlainDatum)) → or_fault (not_library file (d ∷ ds)) o (program_of file (datum_place file d)) ≡ Ok f → ExportsOnce f
      by None h = absurd (cc)
      by (Some is) h = by_imports (import_specs file [] is) h

-- ---- those of a run

-- the file of a program
opened_once : (path held : List ℕ) (o : Opened) → program_in path held ≡ Ok o → ExportsOnce o.form
unfolding program_in
opened_once path held o h = by_data (data_of path held file_nesting) h
  where
    by_form : (ds : List PlainDatum) (r : Result LibraryForm Fault) → read_program path ds ≡ r
        → (r >>= (λ form. Ok (record { path = path; form = form; «data» = ds }))) ≡ Ok o → ExportsOnce o.form
    by_form ds (Ok form) e h =
        let same : ◌≡◌ {A = Opened} (record { path = path; form = form; «data» = ds }) o = cc in
        subst (λ (x : Opened). ExportsOnce x.form) same (program_once path form ds e)
    by_form ds (Err f) e h = absurd (cc)

    by_data : (r : Result (List PlainDatum) Fault)
        → (r >>= (λ ds. read_program path ds >>= (λ form. Ok (record { path = path; form = form; «data» = ds })))) ≡ Ok o → ExportsOnce o.form
    by_data (Ok ds) h = by_form ds (read_program path ds) refl h
    by_data (Err f) h = absurd (cc)

module _ (files : Paths) (roots : List (List ℕ)) (path : List ℕ) where
  abbrev ProgramOnce : Found × Loading → Type 0
  ProgramOnce l = ExportsOnce l.0.opened.form

  once_from : (r : Reading) → Ends ProgramOnce IsSound (program_from files roots path r)
  once_from absent = nothing_sound
  once_from longer = nothing_sound
  once_from (bytes held) = by (program_in path held) refl
    where
      by : (r : Result Opened Fault) → program_in path held ≡ r
          → Ends ProgramOnce IsSound (lifted (with_source nothing_loaded path held) r >>= (λ o. load_file files roots most_libraries o (with_source nothing_loaded path held)))
      by (Ok o) e =
          ends_ok (IsLoaded o (with_source nothing_loaded path held)) ProgramOnce IsSound (load_file files roots most_libraries o (with_source nothing_loaded path held))
          (λ l h. subst (λ (x : Opened). ExportsOnce x.form) (sym h.opened) (opened_once path held o e)) (loads_file files roots most_libraries o (with_source nothing_loaded path held) nothing_sound)
      by (Err f) e = nothing_sound

  once_ends : Ends ProgramOnce IsSound (load files roots path)
  unfolding load
  once_ends = once_from (read_of (at_path files path) file_limit)

  pub program_exports_once : (program : Found) (s : Loading) → load files roots path ≡ Ok (program, s) → ExportsOnce program.opened.form
  program_exports_once program s h = subst (λ (r : Loads (Found × Loading)). Ends ProgramOnce IsSound r) h once_ends

  pub library_exports_once : (program : Found) (s : Loading) → load files roots path ≡ Ok (program, s) → (i : ℕ) (file : List ℕ) (f : Found) → IsAt s.done i file f → ExportsOnce f.opened.form
  library_exports_once program s h i file f at =
      let x = stand_below files roots path program s h i file f at in
      by x.held (data_of f.opened.path x.held file_nesting) (library_is f.opened.form.name f.opened.path x.held f.opened x.read)
    where
      by : (held : List ℕ) (r : Result (List PlainDatum) Fault) → (r >>= read_library f.opened.path) ≡ Ok f.opened.form → ExportsOnce f.opened.form
      by held (Ok ds) e = read_once f.opened.path f.opened.form ds e
      by held (Err g) e = absurd (cc)
