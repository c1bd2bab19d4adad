-- A library is expanded behind records that serve, and its record serves too.
use Rattle.std.proofs.Common.{◌≡◌, ℕ, zero, suc, ◌+◌, Bool, true, false, List, [], ◌∷◌, Option, Result, Ok, Err, refl, inl, inr, if◌then◌else◌}
use Rattle.base_data.proofs.ElementLemmas.{each-append}
use Rattle.base_data.specs.Datum.{PlainDatum}
use Rattle.base_data.specs.Elements.{Each, Among}
use Rattle.base_data.specs.Gives.{◌>>=◌}
use Rattle.base_data.specs.declared.fault.Fault.{Fault}
use Rattle.base_data.specs.Op.{name_count}
use Rattle.base_data.specs.declared.imported_name.ImportedName.{ImportedName}
use Rattle.base_data.specs.declared.library.LibName.{LibName}
use Rattle.base_data.specs.declared.library.LibName.TheVariants as library
use Rattle.load_builtin.specs.Exports.{derived}
use Rattle.load_builtin.specs.declared.derived.TheConstants.{DERIVED_SOURCE}
use Rattle.stx_tree.specs.Tree.{Tree}
use Rattle.core_language.specs.declared.record.CompiledLibrary.{CompiledLibrary}
use Rattle.law_core.specs.Follows.{names_of}
use Rattle.run_derived.specs.Derived.{forms_of, record_of, derived_record, derived_body}
use Rattle.run_derived.specs.Names.{path, is_defined, core_name, name_at, names_from, names}
use Rattle.eval_code.specs.Codes.{Codes}
use Rattle.expand_forms.specs.Expanding.{ready, library_record}
use Rattle.law_expand.specs.Ready.{IsReady}
use Rattle.law_expand.specs.Serves.{IsThere, AllServe}
use Rattle.law_expand.proofs.GoodKeywords.{keywords-good}
use Rattle.law_expand.proofs.Records.{records-good}
use Rattle.law_expand.proofs.Shallow.{records-shallow}
use Rattle.law_expand.proofs.Variables.{variables-indexed}
use Rattle.law_expand.proofs.Serving.{records-serve}
use Rattle.load_forms.specs.declared.form.LibraryForm.{LibraryForm}
use Rattle.load_import.specs.Names.{Labelled}
use Rattle.run_library.specs.Imports.{form_names}
use Rattle.run_library.specs.Library.{trees_at, expander_of, expand_library, body_with}
use Rattle.law_run.specs.Run.{Stands}
use Rattle.law_run.proofs.ImportLemmas.{imports_there}

-- a name that no library has yet
abbrev pub IsNew : List CompiledLibrary → LibName → Type 0
IsNew records name = Among (names_of records) name → ⊥

module _ (records : List CompiledLibrary) (serve : AllServe [] records) (path : List ℕ) (form : LibraryForm) (new : IsNew records form.name) (body : List PlainDatum) (r : CompiledLibrary) where
  -- by its names and forms, where both are read
  record_stands : (names : Labelled) (codes : Codes) (forms : List Tree) → form_names records form.imports ≡ Ok names
      → library_record (ready form.name records names codes) records (body_with path form forms) ≡ Ok r → Stands records form.name r
  record_stands names codes forms n h =
      let is_ready : IsReady form.name records = record { new = new; earlier = serve } in
      let g = records-good form.name records names (body_with path form forms) codes r is_ready h in
      let there = imports_there records serve form.imports names n in
      record {
        named = g.1;
        good = g.0;
        keywords = keywords-good form.name records names (body_with path form forms) codes r is_ready h;
        serves = records-serve form.name records names (body_with path form forms) codes r is_ready there h;
        indices = variables-indexed form.name records names (body_with path form forms) codes r is_ready h;
        shallow = records-shallow form.name records names (body_with path form forms) codes r is_ready h;
      }

  -- expansion reads both first, and then all that it promises holds
  pub library_stands : (prelude : Result Codes Fault) → expand_library prelude records path form body ≡ Ok r → Stands records form.name r
  unfolding expand_library
  library_stands prelude h = by_names (form_names records form.imports) refl h
    where
      by_codes : (names : Labelled) (forms : List Tree) → form_names records form.imports ≡ Ok names → (x : Result Codes Fault)
          → (expander_of x form.name records names >>= (λ e. library_record e records (body_with path form forms))) ≡ Ok r
          → Stands records form.name r
      by_codes names forms n (Ok codes) h = record_stands names codes forms n h
      by_codes names forms n (Err f) h = absurd (cc)

      by_forms : (names : Labelled) → form_names records form.imports ≡ Ok names → (x : Result (List Tree) Fault)
          → (x >>= (λ forms. expander_of prelude form.name records names >>= (λ e. library_record e records (body_with path form forms)))) ≡ Ok r
          → Stands records form.name r
      by_forms names n (Ok forms) h = by_codes names forms n prelude h
      by_forms names n (Err f) h = absurd (cc)

      by_names : (x : Result Labelled Fault) → form_names records form.imports ≡ x
          → (x >>= (λ names. trees_at form.name_span [] body >>= (λ forms. expander_of prelude form.name records names >>= (λ e. library_record e records (body_with path form forms))))) ≡ Ok r
          → Stands records form.name r
      by_names (Ok names) n h = by_forms names n (trees_at form.name_span [] body) h
      by_names (Err f) n h = absurd (cc)

-- The derived library: it imports names of the implementation alone.

names_there : (ds : List (Option ℕ)) (n count : ℕ) → Each (λ (e : ImportedName). IsThere [] e.label.0.library) (names_from ds n count)
unfolding names_from
names_there ds n zero = tt
names_there ds n (suc count) =
    each-append (λ (e : ImportedName). IsThere [] e.label.0.library) (name_at ds n) (names_from ds (n + 1) count) (by (is_defined n ds)) (names_there ds (n + 1) count)
  where
    by : (b : Bool) → Each (λ (e : ImportedName). IsThere [] e.label.0.library) (if b then [] else core_name n ∷ [])
    by true = tt
    by false = (inr (inl refl), tt)

module _ (d : CompiledLibrary) where
  forms_stand : (codes : Codes) (forms : List Tree) → record_of codes forms ≡ Ok d → Stands [] library.Derived d
  unfolding record_of
  forms_stand codes forms h =
      let is_ready : IsReady library.Derived [] = record { new = λ a. elim a [ ]; earlier = tt } in
      let g = records-good library.Derived [] names (derived_body forms) codes d is_ready h in
      record {
        named = g.1;
        good = g.0;
        keywords = keywords-good library.Derived [] names (derived_body forms) codes d is_ready h;
        serves = records-serve library.Derived [] names (derived_body forms) codes d is_ready (names_there derived 0 name_count) h;
        indices = variables-indexed library.Derived [] names (derived_body forms) codes d is_ready h;
        shallow = records-shallow library.Derived [] names (derived_body forms) codes d is_ready h;
      }

  pub derived_stands : (prelude : Result Codes Fault) → derived_record prelude ≡ Ok d → Stands [] library.Derived d
  unfolding derived_record
  derived_stands prelude h = by_forms (forms_of DERIVED_SOURCE.now) h
    where
      by_codes : (forms : List Tree) (x : Result Codes Fault) → (x >>= (λ codes. record_of codes forms)) ≡ Ok d → Stands [] library.Derived d
      by_codes forms (Ok codes) h = forms_stand codes forms h
      by_codes forms (Err f) h = absurd (cc)

      by_forms : (x : Result (List Tree) Fault) → (x >>= (λ forms. prelude >>= (λ codes. record_of codes forms))) ≡ Ok d → Stands [] library.Derived d
      by_forms (Ok forms) h = by_codes forms prelude h
      by_forms (Err f) h = absurd (cc)
