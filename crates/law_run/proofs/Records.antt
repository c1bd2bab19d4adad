-- The records of a run, and what stands in their lines.
use Rattle.std.proofs.Common.{◌≡◌, ◌≤◌, ℕ, true, List, [], ◌∷◌, ◌++◌, Option, Some, None, Result, Ok, Err, refl, subst}
use Rattle.std.specs.Prelude.{slice_get}
use Rattle.base_data.proofs.ElementLemmas.{each-and}
use Rattle.base_data.specs.Datum.{PlainDatum}
use Rattle.base_data.specs.Elements.{Each}
use Rattle.base_data.specs.Gives.{◌>>=◌}
use Rattle.base_data.specs.declared.fault.Fault.{Fault}
use Rattle.core_language.specs.declared.record.CompiledLibrary.{CompiledLibrary}
use Rattle.law_core.specs.Records.{line_core}
use Rattle.base_data.specs.Elements as elements
use Rattle.run_derived.specs.Derived.{derived_record}
use Rattle.eval_code.specs.Codes.{Codes}
use Rattle.expand_forms.specs.Expanding.{library_record}
use Rattle.load_forms.specs.Form.{library_body, program_body}
use Rattle.load_forms.specs.declared.form.LibraryForm.{LibraryForm}
use Rattle.law_fresh.proofs.Eachs.{each_at}
use Rattle.law_fresh.proofs.Trees.{OkHolds}
use Rattle.law_fresh.specs.Leaves.{OptionHolds}
use Rattle.load_import.specs.Names.{Labelled}
use Rattle.load_import.specs.Turns.{turns}
use Rattle.run_library.specs.Imports.{form_names}
use Rattle.run_library.specs.Library.{trees_at, expander_of, expand_library, body_with}
use Rattle.run_library.specs.Loaded.{expand_found, expand_next, all_records}
use Rattle.run_library.specs.Records.{needed_records}
use Rattle.law_limit_expansion.proofs.Recorded.{records-stay}
use Rattle.law_limit_expansion.specs.Records.{RecordHolds}
use Rattle.law_limits.proofs.Limits.{fits-lawful}
use Rattle.law_limits.specs.Holds.{CodesHold}
use Rattle.load_files.specs.Found.{places_from}
use Rattle.load_files.specs.declared.found.Found.{Found}
use Rattle.load_files.specs.declared.found.Loading.{Loading}
use Rattle.law_nesting.proofs.Records.{lines-nest-all}
use Rattle.law_nesting.specs.Heights.{in_text, height_with}
use Rattle.law_nesting.specs.Nesting.{deepest}
use Rattle.base_outside.specs.Contents.{Paths}
use Rattle.run_prelude.specs.Prelude.{prelude_table}
use Rattle.law_run.specs.Run.{run_inputs, IsRun}
use Rattle.law_run.proofs.Texts.{IsShallow, at-most-text, trees-fit, prelude-fits, derived-shallow}
use Rattle.law_run.specs.Limits.{RunsStayWithin}
use Rattle.law_run.specs.Nesting.{RunsNest}
use Rattle.expand_standing.specs.Start.{or_skip, records_at}
use Rattle.stx_tree.specs.Measures.{Fits}
use Rattle.stx_tree.specs.Tree.{Tree}

abbrev Rs : List CompiledLibrary → Type 0
Rs rs = Each IsShallow rs

at-places : (rs : List CompiledLibrary) (ps : List ℕ) → Rs rs → Rs (records_at rs ps)
at-places rs [] h = tt
at-places rs (p ∷ ps) h = by (slice_get rs p) (each_at IsShallow rs p h) (at-places rs ps h)
  where
    by : (o : Option CompiledLibrary) → OptionHolds IsShallow o → Rs (records_at rs ps) → Rs (or_skip o (records_at rs ps))
    by None k j = j
    by (Some r) k j = (k, j)

all-within : (rs : List CompiledLibrary) → Rs rs → Each (RecordHolds Fits) rs
all-within [] h = tt
all-within (r ∷ rs) h = (h.0.within, all-within rs h.1)

module _ (prelude : Result Codes Fault) (given : (table : Codes) → prelude ≡ Ok table → CodesHold Fits table) where
  made-shallow : (records : List CompiledLibrary) (path : List ℕ) (form : LibraryForm) (body : List PlainDatum) (r : CompiledLibrary) → Rs records → expand_library prelude records path form body ≡ Ok r → IsShallow r
  unfolding expand_library
  made-shallow records path form body r before h = by-names (form_names records form.imports) h
    where
      by-codes : (names : Labelled) (forms : List Tree) → Each Fits forms → (x : Result Codes Fault) → prelude ≡ x
          → (expander_of x form.name records names >>= (λ e. library_record e records (body_with path form forms))) ≡ Ok r → IsShallow r
      by-codes names forms fit (Ok table) e h = record {
        within = records-stay Fits fits-lawful form.name records names (body_with path form forms) table r (all-within records before) (given table e) fit h;
        nests = lines-nest-all in_text at-most-text form.name records names (body_with path form forms) table r h;
      }
      by-codes names forms fit (Err f) e h = absurd (cc)

      by-forms : (names : Labelled) (x : Result (List Tree) Fault) → OkHolds (Each Fits) x
          → (x >>= (λ forms. expander_of prelude form.name records names >>= (λ e. library_record e records (body_with path form forms)))) ≡ Ok r → IsShallow r
      by-forms names (Ok forms) fit h = by-codes names forms fit prelude refl h
      by-forms names (Err f) fit h = absurd (cc)

      by-names : (x : Result Labelled Fault)
          → (x >>= (λ names. trees_at form.name_span [] body >>= (λ forms. expander_of prelude form.name records names >>= (λ e. library_record e records (body_with path form forms))))) ≡ Ok r
          → IsShallow r
      by-names (Ok names) h = by-forms names (trees_at form.name_span [] body) (trees-fit form.name_span [] body tt) h
      by-names (Err f) h = absurd (cc)

  found-shallow : (records : List CompiledLibrary) (f : Found) (body : List PlainDatum) (r : CompiledLibrary) → Rs records → expand_found prelude records f body ≡ Ok r → IsShallow r
  found-shallow records f body r before h = made-shallow (needed_records records (true ∷ f.needs)) f.opened.path f.opened.form body r (at-places records (places_from 0 (true ∷ f.needs)) before) h

  turns-shallow : (done : List CompiledLibrary) (rows : List (List ℕ × Found)) (records : List CompiledLibrary) → Rs done → turns (expand_next prelude) done rows ≡ Ok records → Rs records
  turns-shallow done [] records h e = let same : done ≡ records = cc in subst Rs same h
  turns-shallow done (row ∷ rows) records h e = by (λ more j i. turns-shallow more rows records j i) (expand_found prelude done row.1 (library_body row.1.opened.«data»)) refl e
    where
      by : ((more : List CompiledLibrary) → Rs more → turns (expand_next prelude) more rows ≡ Ok records → Rs records) → (x : Result CompiledLibrary Fault) → expand_found prelude done row.1 (library_body row.1.opened.«data») ≡ x
          → ((x >>= (λ r. Ok (done ++ r ∷ []))) >>= (λ more. turns (expand_next prelude) more rows)) ≡ Ok records → Rs records
      by rest (Ok r) i e = rest (done ++ r ∷ []) (each-and IsShallow done r h (found-shallow done row.1 (library_body row.1.opened.«data») r h i)) e
      by rest (Err f) i e = absurd (cc)

  records-shallow : (rows : List (List ℕ × Found)) (records : List CompiledLibrary) → all_records prelude rows ≡ Ok records → Rs records
  records-shallow rows records e = by (derived_record prelude) refl e
    where
      by : (x : Result CompiledLibrary Fault) → derived_record prelude ≡ x → (x >>= (λ d. turns (expand_next prelude) (d ∷ []) rows)) ≡ Ok records → Rs records
      by (Ok d) i e = turns-shallow (d ∷ []) rows records (derived-shallow d prelude given i, tt) e
      by (Err f) i e = absurd (cc)

module _ (files : Paths) (roots : List (List ℕ)) (path : List ℕ) (found : Found) (s : Loading) (records : List CompiledLibrary) (program : CompiledLibrary) (run : IsRun (run_inputs prelude_table files roots path) found s records program) where
  all-shallow : Rs (records ++ program ∷ [])
  all-shallow =
      let before = records-shallow prelude_table prelude-fits s.done records run.recorded in
      each-and IsShallow records program before (found-shallow prelude_table prelude-fits records found (program_body found.opened.«data») program before run.expanded)

in-words : {A : Type 0} (P Q : A → Type 0) → ((x : A) → P x → Q x) → (xs : List A) → Each P xs → elements.Each Q xs
in-words P Q f [] h = tt
in-words P Q f (x ∷ xs) h = (f x h.0, in-words P Q f xs h.1)

pub runs-shallow : (files : Paths) (roots : List (List ℕ)) (path : List ℕ) (found : Found) (s : Loading) (records : List CompiledLibrary) (program : CompiledLibrary)
    → IsRun (run_inputs prelude_table files roots path) found s records program → elements.Each IsShallow (records ++ program ∷ [])
runs-shallow files roots path found s records program run = in-words IsShallow IsShallow (λ r h. h) (records ++ program ∷ []) (all-shallow files roots path found s records program run)

pub runs-within : RunsStayWithin
runs-within files roots path found s records program run = in-words IsShallow (RecordHolds Fits) (λ r h. h.within) (records ++ program ∷ []) (all-shallow files roots path found s records program run)

pub runs-nest : RunsNest
runs-nest files roots path found s records program run =
    in-words IsShallow (λ r. elements.Each (λ l. height_with in_text (line_core l) ≤ deepest) r.run) (λ r h. h.nests) (records ++ program ∷ []) (all-shallow files roots path found s records program run)
