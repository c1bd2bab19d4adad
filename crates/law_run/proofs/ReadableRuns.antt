-- All constants of a run can be written and read back.
use Rattle.std.proofs.Common.{◌≡◌, ℕ, zero, suc, Bool, true, false, List, [], ◌∷◌, ◌++◌, Option, Some, None, Result, Ok, Err, refl, sym, subst, if◌then◌else◌}
use Rattle.std.specs.Prelude.{slice_get}
use Rattle.std.specs.List.{flat_map}
use Rattle.base_data.proofs.ElementLemmas.{each-at, each-of, each-append, each-and}
use Rattle.base_data.specs.Datum.{PlainDatum}
use Rattle.base_data.specs.Elements.{Each}
use Rattle.base_data.specs.Gives.{◌>>=◌}
use Rattle.base_data.specs.Same.{same_library}
use Rattle.base_data.specs.declared.fault.Fault.{Fault}
use Rattle.base_data.specs.declared.library.LibName.{LibName}
use Rattle.core_language.specs.Core.{PlainCore, quoted, variable, primitive, one_armed, two_armed, assignment, sequence, procedure, letrec, call, instance, matching}
use Rattle.core_language.specs.Core.{PlainCores, none, more, PlainInits, no_init, init, PlainCases, no_case, case, PlainClauses, no_clause, clause, fended}
use Rattle.core_language.specs.declared.record.CompiledLibrary.{CompiledLibrary}
use Rattle.core_language.specs.declared.record.Line.{Line}
use Rattle.core_language.specs.declared.record.Line.TheVariants as line
use Rattle.law_core_grammar.specs.Laws.{IsWrittenCoreText, CoreTextIsReadBack, CoreTextTellsItsLines}
use Rattle.law_core_grammar.specs.Spellable.{CanBeRead, own_constant, constants}
use Rattle.law_core.specs.Parts.{parts, all_parts, init_parts, case_parts, clause_parts}
use Rattle.law_core.specs.Records.{line_core}
use Rattle.base_data.specs.Elements as elements
use Rattle.run_derived.specs.Derived.{derived_record}
use Rattle.eval_code.specs.Codes.{Codes}
use Rattle.expand_forms.specs.Expanding.{library_record}
use Rattle.load_forms.specs.Form.{library_body, program_body, read_library, read_program}
use Rattle.load_forms.specs.declared.form.LibraryForm.{LibraryForm}
use Rattle.law_fresh.specs.Leaves.{OptionHolds}
use Rattle.law_fresh.proofs.Eachs.{each_at}
use Rattle.law_fresh.proofs.Trees.{OkHolds}
use Rattle.load_import.specs.Names.{Labelled}
use Rattle.load_import.specs.Turns.{turns}
use Rattle.run_library.specs.Imports.{form_names}
use Rattle.run_library.specs.Library.{trees_at, expander_of, expand_library, body_with}
use Rattle.run_library.specs.Loaded.{expand_found, expand_next, all_records}
use Rattle.run_library.specs.Records.{needed_records}
use Rattle.load_files.specs.Found.{nothing_loaded, with_source, most_libraries, places_from}
use Rattle.load_files.specs.Load.{Loads, lifted, differs, opened, program_in, file_limit, load_file, program_from, load}
use Rattle.load_files.specs.Load as loading
use Rattle.load_files.specs.declared.found.Found.{Found}
use Rattle.load_files.specs.declared.found.Loading.{Loading}
use Rattle.load_files.specs.declared.found.Opened.{Opened}
use Rattle.law_load.proofs.OpenLemmas.{Ends, ends_ok}
use Rattle.law_load.proofs.RootLemmas.{stand_below}
use Rattle.base_outside.specs.Contents.{Paths, at_path, Reading, bytes, longer, absent, read_of}
use Rattle.core_plan.specs.Planned.{plan_of}
use Rattle.run_prelude.specs.Prelude.{prelude_table}
use Rattle.read_reader.specs.Read.{data_of, file_nesting}
use Rattle.law_readable.specs.Readable.{ReadableDatum, ReadableTree, ReadableCore, ReadableCores, ReadableInits, ReadableCases, ReadableClauses, ReadableLines}
use Rattle.law_readable.proofs.Data.{readables-read}
use Rattle.law_readable_expansion.specs.Records.{ReadableRecord}
use Rattle.law_readable_expansion.proofs.Recorded.{records-stay}
use Rattle.expand_standing.specs.Start.{or_skip, records_at}
use Rattle.law_text.specs.Text.{text_of}
use Rattle.law_text.proofs.Closed.{text-known}
use Rattle.stx_tree.specs.Tree.{Tree}
use Rattle.law_run.specs.Readable.{IsReadablePrelude, RunsAreReadable, ConstantsAreRead, TextsAreReadBack, TextsTellTheirLines}
use Rattle.law_run.specs.Run.{run_inputs}
use Rattle.law_run.specs.Spelled.{run_lines, GivesText, CanAllBeRead}
use Rattle.law_run.proofs.ClosedLemmas.{all_standing}
use Rattle.law_run.proofs.ReadableData.{Ds, text-data, library-body, program-body, trees-hold}
use Rattle.law_run.proofs.ReadableGiven.{prelude-readable, derived-readable}
use Rattle.law_run.proofs.RunLemmas.{all_records_stand}
use Rattle.law_run.proofs.SpelledLines.{text-lines}
use Rattle.law_run.proofs.SpelledRuns.{core-text}
use Rattle.law_run.proofs.UserLemmas.{Nothing, Closes, users_file}

-- What is loaded.

library-data : (name : LibName) (path held : List ℕ) (o : Opened) → loading.library_in name path held ≡ Ok o → Ds o.«data»
unfolding loading.library_in
library-data name path held o h = by-data (data_of path held file_nesting) (text-data path held) h
  where
    by-name : (ds : List PlainDatum) (form : LibraryForm) (b : Bool) → Ds ds → (if b then Ok (record { path = path; form = form; «data» = ds }) else Err (differs form)) ≡ Ok o → Ds o.«data»
    by-name ds form true k h = let same : ◌≡◌ {A = Opened} (record { path = path; form = form; «data» = ds }) o = cc in subst (λ (x : Opened). Ds x.«data») same k
    by-name ds form false k h = absurd (cc)

    by-form : (ds : List PlainDatum) (r : Result LibraryForm Fault) → Ds ds → (r >>= (λ form. opened name path ds form)) ≡ Ok o → Ds o.«data»
    by-form ds (Ok form) k h = by-name ds form (same_library form.name name) k h
    by-form ds (Err f) k h = absurd (cc)

    by-data : (r : Result (List PlainDatum) Fault) → OkHolds Ds r → (r >>= (λ ds. read_library path ds >>= (λ form. opened name path ds form))) ≡ Ok o → Ds o.«data»
    by-data (Ok ds) k h = by-form ds (read_library path ds) k h
    by-data (Err f) k h = absurd (cc)

program-data : (path held : List ℕ) (o : Opened) → program_in path held ≡ Ok o → Ds o.«data»
unfolding program_in
program-data path held o h = by-data (data_of path held file_nesting) (text-data path held) h
  where
    by-form : (ds : List PlainDatum) (r : Result LibraryForm Fault) → Ds ds → (r >>= (λ form. Ok (record { path = path; form = form; «data» = ds }))) ≡ Ok o → Ds o.«data»
    by-form ds (Ok form) k h = let same : ◌≡◌ {A = Opened} (record { path = path; form = form; «data» = ds }) o = cc in subst (λ (x : Opened). Ds x.«data») same k
    by-form ds (Err f) k h = absurd (cc)

    by-data : (r : Result (List PlainDatum) Fault) → OkHolds Ds r → (r >>= (λ ds. read_program path ds >>= (λ form. Ok (record { path = path; form = form; «data» = ds })))) ≡ Ok o → Ds o.«data»
    by-data (Ok ds) k h = by-form ds (read_program path ds) k h
    by-data (Err f) k h = absurd (cc)

abbrev RowHolds : List ℕ × Found → Type 0
RowHolds row = Ds row.1.opened.«data»

rows-hold : (rows : List (List ℕ × Found)) → ((i : ℕ) (row : List ℕ × Found) → slice_get rows i ≡ Some row → RowHolds row) → Each RowHolds rows
rows-hold [] h = tt
rows-hold (row ∷ rows) h = (h zero row refl, rows-hold rows (λ i x e. h (suc i) x e))

record IsRead (l : Found × Loading) : Type 0 where
  readable : Ds l.0.opened.«data»

module _ (files : Paths) (roots : List (List ℕ)) (path : List ℕ) (found : Found) (s : Loading) (loaded : load files roots path ≡ Ok (found, s)) where
  loaded-rows : Each RowHolds s.done
  loaded-rows = rows-hold s.done at-place
    where
      at-place : (i : ℕ) (row : List ℕ × Found) → slice_get s.done i ≡ Some row → RowHolds row
      at-place i (file, f) e = let x = stand_below files roots path found s loaded i file f e in library-data f.opened.form.name f.opened.path x.held f.opened x.read

  read-from : (r : Reading) → Ends IsRead Nothing (program_from files roots path r)
  read-from absent = tt
  read-from longer = tt
  read-from (bytes held) = by (program_in path held) refl
    where
      by : (r : Result Opened Fault) → program_in path held ≡ r → Ends IsRead Nothing (lifted (with_source nothing_loaded path held) r >>= (λ o. load_file files roots most_libraries o (with_source nothing_loaded path held)))
      by (Ok o) e =
          ends_ok (Closes o) IsRead Nothing (load_file files roots most_libraries o (with_source nothing_loaded path held))
          (λ l h. record { readable = subst (λ (x : Opened). Ds x.«data») (sym h.opened) (program-data path held o e) })
          (users_file files roots most_libraries o (with_source nothing_loaded path held) tt)
      by (Err f) e = tt

  read-ends : Ends IsRead Nothing (load files roots path)
  unfolding load
  read-ends = read-from (read_of (at_path files path) file_limit)

  loaded-program : Ds found.opened.«data»
  loaded-program = let x : IsRead (found, s) = subst (λ (r : Loads (Found × Loading)). Ends IsRead Nothing r) loaded read-ends in x.readable

-- Records.

abbrev Rs : List CompiledLibrary → Type 0
Rs rs = Each ReadableRecord rs

at-places : (rs : List CompiledLibrary) (ps : List ℕ) → Rs rs → Rs (records_at rs ps)
at-places rs [] h = tt
at-places rs (p ∷ ps) h = by (slice_get rs p) (each_at ReadableRecord rs p h) (at-places rs ps h)
  where
    by : (o : Option CompiledLibrary) → OptionHolds ReadableRecord o → Rs (records_at rs ps) → Rs (or_skip o (records_at rs ps))
    by None k j = j
    by (Some r) k j = (k, j)

module _ (prelude : Result Codes Fault) (given : IsReadablePrelude prelude) where
  made-holds : (records : List CompiledLibrary) (path : List ℕ) (form : LibraryForm) (body : List PlainDatum) (r : CompiledLibrary) → Rs records → Ds body → expand_library prelude records path form body ≡ Ok r → ReadableRecord r
  unfolding expand_library
  made-holds records path form body r before holds h = by-names (form_names records form.imports) h
    where
      by-codes : (names : Labelled) (forms : List Tree) → Each ReadableTree forms → (x : Result Codes Fault) → prelude ≡ x
          → (expander_of x form.name records names >>= (λ e. library_record e records (body_with path form forms))) ≡ Ok r → ReadableRecord r
      by-codes names forms read (Ok table) e h = records-stay form.name records names (body_with path form forms) table r before (given table e) read h
      by-codes names forms read (Err f) e h = absurd (cc)

      by-forms : (names : Labelled) (x : Result (List Tree) Fault) → OkHolds (Each ReadableTree) x
          → (x >>= (λ forms. expander_of prelude form.name records names >>= (λ e. library_record e records (body_with path form forms)))) ≡ Ok r → ReadableRecord r
      by-forms names (Ok forms) read h = by-codes names forms read prelude refl h
      by-forms names (Err f) read h = absurd (cc)

      by-names : (x : Result Labelled Fault)
          → (x >>= (λ names. trees_at form.name_span [] body >>= (λ forms. expander_of prelude form.name records names >>= (λ e. library_record e records (body_with path form forms))))) ≡ Ok r
          → ReadableRecord r
      by-names (Ok names) h = by-forms names (trees_at form.name_span [] body) (trees-hold form.name_span [] body tt holds) h
      by-names (Err f) h = absurd (cc)

  found-holds : (records : List CompiledLibrary) (f : Found) (body : List PlainDatum) (r : CompiledLibrary) → Rs records → Ds body → expand_found prelude records f body ≡ Ok r → ReadableRecord r
  found-holds records f body r before holds h = made-holds (needed_records records (true ∷ f.needs)) f.opened.path f.opened.form body r (at-places records (places_from 0 (true ∷ f.needs)) before) holds h

  turns-hold : (done : List CompiledLibrary) (rows : List (List ℕ × Found)) (records : List CompiledLibrary) → Rs done → Each RowHolds rows → turns (expand_next prelude) done rows ≡ Ok records → Rs records
  turns-hold done [] records h k e = let same : done ≡ records = cc in subst Rs same h
  turns-hold done (row ∷ rows) records h k e = by (λ more j i. turns-hold more rows records j k.1 i) (expand_found prelude done row.1 (library_body row.1.opened.«data»)) refl e
    where
      by : ((more : List CompiledLibrary) → Rs more → turns (expand_next prelude) more rows ≡ Ok records → Rs records) → (x : Result CompiledLibrary Fault) → expand_found prelude done row.1 (library_body row.1.opened.«data») ≡ x
          → ((x >>= (λ r. Ok (done ++ r ∷ []))) >>= (λ more. turns (expand_next prelude) more rows)) ≡ Ok records → Rs records
      by rest (Ok r) i e = rest (done ++ r ∷ []) (each-and ReadableRecord done r h (found-holds done row.1 (library_body row.1.opened.«data») r h (library-body row.1.opened.«data» k.0) i)) e
      by rest (Err f) i e = absurd (cc)

  records-hold : (rows : List (List ℕ × Found)) (records : List CompiledLibrary) → Each RowHolds rows → all_records prelude rows ≡ Ok records → Rs records
  records-hold rows records k e = by (derived_record prelude) refl e
    where
      by : (x : Result CompiledLibrary Fault) → derived_record prelude ≡ x → (x >>= (λ d. turns (expand_next prelude) (d ∷ []) rows)) ≡ Ok records → Rs records
      by (Ok d) i e = turns-hold (d ∷ []) rows records (derived-readable d prelude given i, tt) k e
      by (Err f) i e = absurd (cc)

in-words : {A : Type 0} (P : A → Type 0) (xs : List A) → Each P xs → elements.Each P xs
in-words P [] h = tt
in-words P (x ∷ xs) h = (h.0, in-words P xs h.1)

pub runs-readable : RunsAreReadable
runs-readable files roots path found s records program run =
    let before = records-hold prelude_table prelude-readable s.done records (loaded-rows files roots path found s run.loaded) run.recorded in
    let last = found-holds prelude_table prelude-readable records found (program_body found.opened.«data») program before (program-body found.opened.«data» (loaded-program files roots path found s run.loaded)) run.expanded in
    in-words ReadableRecord (records ++ program ∷ []) (each-and ReadableRecord records program before last)

-- Constants.

abbrev OwnHolds : PlainCore → Type 0
OwnHolds c = elements.Each ReadableDatum (own_constant c)

abbrev All : List PlainCore → Type 0
All cs = elements.Each OwnHolds cs

both : (xs ys : List PlainCore) → All xs → All ys → All (xs ++ ys)
both xs ys h k = each-append OwnHolds xs ys h k

mutual
  parts-hold : (c : PlainCore) → ReadableCore c → All (parts c)
  parts-hold (quoted d) h = ((h, tt), tt)
  parts-hold (variable l) h = (tt, tt)
  parts-hold (primitive o) h = (tt, tt)
  parts-hold (one_armed c d) h = (tt, both (parts c) (parts d) (parts-hold c h.0) (parts-hold d h.1))
  parts-hold (two_armed c d e) h = (tt, both (parts c) (parts d ++ parts e) (parts-hold c h.0) (both (parts d) (parts e) (parts-hold d h.1.0) (parts-hold e h.1.1)))
  parts-hold (assignment l c) h = (tt, parts-hold c h)
  parts-hold (sequence cs) h = (tt, all-hold cs h)
  parts-hold (procedure n cs p) h = (tt, cases-hold cs h)
  parts-hold (letrec o is c) h = (tt, both (init_parts is) (parts c) (inits-hold is h.0) (parts-hold c h.1))
  parts-hold (call c cs) h = (tt, both (parts c) (all_parts cs) (parts-hold c h.0) (all-hold cs h.1))
  parts-hold (instance t s) h = (tt, tt)
  parts-hold (matching c cs s) h = (tt, both (parts c) (clause_parts cs) (parts-hold c h.0) (clauses-hold cs h.1))

  all-hold : (cs : PlainCores) → ReadableCores cs → All (all_parts cs)
  all-hold none h = tt
  all-hold (more c cs) h = both (parts c) (all_parts cs) (parts-hold c h.0) (all-hold cs h.1)

  inits-hold : (is : PlainInits) → ReadableInits is → All (init_parts is)
  inits-hold no_init h = tt
  inits-hold (init l c is) h = both (parts c) (init_parts is) (parts-hold c h.0) (inits-hold is h.1)

  cases-hold : (cs : PlainCases) → ReadableCases cs → All (case_parts cs)
  cases-hold no_case h = tt
  cases-hold (case f c cs) h = both (parts c) (case_parts cs) (parts-hold c h.0) (cases-hold cs h.1)

  clauses-hold : (cs : PlainClauses) → ReadableClauses cs → All (clause_parts cs)
  clauses-hold no_clause h = tt
  clauses-hold (clause p c cs) h = both (parts c) (clause_parts cs) (parts-hold c h.0) (clauses-hold cs h.1)
  clauses-hold (fended p f c cs) h = both (parts f) (parts c ++ clause_parts cs) (parts-hold f h.0) (both (parts c) (clause_parts cs) (parts-hold c h.1.0) (clauses-hold cs h.1.1))

own-constants : (cs : List PlainCore) → All cs → elements.Each ReadableDatum (flat_map own_constant cs)
own-constants [] h = tt
own-constants (c ∷ cs) h = each-append ReadableDatum (own_constant c) (flat_map own_constant cs) h.0 (own-constants cs h.1)

abbrev LineHolds : Line → Type 0
LineHolds l = elements.Each ReadableDatum (constants (line_core l))

lines-hold : (ls : List Line) → ReadableLines ls → elements.Each LineHolds ls
lines-hold [] h = tt
lines-hold (line.Define l c ∷ ls) h = (own-constants (parts c) (parts-hold c h.0), lines-hold ls h.1)
lines-hold (line.Expr c ∷ ls) h = (own-constants (parts c) (parts-hold c h.0), lines-hold ls h.1)

can-be-read : (ds : List PlainDatum) → elements.Each ReadableDatum ds → elements.Each CanBeRead ds
can-be-read [] h = tt
can-be-read (d ∷ ds) h = (readables-read d h.0, can-be-read ds h.1)

all-can : (ls : List Line) → elements.Each LineHolds ls → CanAllBeRead ls
all-can [] h = tt
all-can (l ∷ ls) h = (can-be-read (constants (line_core l)) h.0, all-can ls h.1)

pub constants-read : ConstantsAreRead
constants-read files roots path found s records program run =
    let stand = all_records_stand prelude_table files roots path found s records program run in
    let standing = all_standing found s records program stand in
    let readable = runs-readable files roots path found s records program run in
    let lines = text-lines LineHolds records program
    (each-of (λ r. elements.Each LineHolds r.run) (text_of records program) (λ r a. lines-hold r.run (each-at ReadableRecord (records ++ program ∷ []) r readable (text-known records program standing r a)).run)) in
    all-can (run_lines records program) lines

is-text : (files : Paths) (roots : List (List ℕ)) (path : List ℕ) (found : Found) (s : Loading) (records : List CompiledLibrary) (program : CompiledLibrary) (text : List ℕ)
    → GivesText (run_inputs prelude_table files roots path) found s records program text → IsWrittenCoreText records (plan_of records program) program text
is-text files roots path found s records program text h = core-text prelude_table files roots path found s records program text h (constants-read files roots path found s records program h.run)

pub texts-back : CoreTextIsReadBack → TextsAreReadBack
texts-back back files roots path found s records program text h = back records (plan_of records program) program text (is-text files roots path found s records program text h)

pub texts-tell : CoreTextTellsItsLines → TextsTellTheirLines
texts-tell tells files files' roots roots' path path' found found' s s' records records' program program' text h k =
    tells records records' (plan_of records program) (plan_of records' program') program program' text
    (is-text files roots path found s records program text h) (is-text files' roots' path' found' s' records' program' text k)
