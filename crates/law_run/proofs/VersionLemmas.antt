-- The record of a library has the version that it was read with.
use Rattle.std.proofs.Common.{◌≡◌, ℕ, List, [], Result, Ok, Err, sym, ap}
use Rattle.std.specs.Prelude.{map}
use Rattle.base_data.specs.Act.{after}
use Rattle.base_data.specs.Datum.{PlainDatum}
use Rattle.base_data.specs.Gives.{◌>>=◌}
use Rattle.base_data.specs.declared.fault.Fault.{Fault}
use Rattle.base_data.specs.declared.imported_name.ImportedName.{ImportedName}
use Rattle.stx_tree.specs.Tree.{Tree}
use Rattle.core_language.specs.declared.record.CompiledLibrary.{CompiledLibrary}
use Rattle.core_language.specs.declared.record.Line.{Line}
use Rattle.expand_forms.specs.Body.{finish_all}
use Rattle.expand_forms.specs.Expanding.{ready, library_record}
use Rattle.expand_forms.specs.Expression.{inside, full_room}
use Rattle.expand_forms.specs.Inside.{Inside}
use Rattle.expand_forms.specs.Top.{exports, record_of, give_record, record_in, first_pass, second_pass, top, top_at}
use Rattle.expand_forms.specs.declared.top.TopAt.{TopAt}
use Rattle.load_forms.specs.declared.form.LibraryForm.{LibraryForm}
use Rattle.expand_heads.specs.declared.taken.Taken.{Taken}
use Rattle.load_import.specs.Names.{Labelled}
use Rattle.run_library.specs.Imports.{form_names}
use Rattle.eval_code.specs.Codes.{Codes}
use Rattle.run_library.specs.Library.{export_tree, trees_at, expander_of, expand_library, body_with}
use Rattle.expand_standing.specs.State.{State}
use Rattle.expand_standing.specs.Start.{first_frame}

module _ (go : Inside) (at : TopAt) (es : List (List ℕ × Tree)) where
  finished-version : (taken : Taken) (s : State) (r : CompiledLibrary) → record_in (second_pass go at es taken s) ≡ Ok r → r.version ≡ at.version
  unfolding second_pass
  finished-version taken s r h = by_exports (exports at es s) h
    where
      by_lines : (ls : List ImportedName) (x : Result (List Line × State) Fault) → record_in (after x (λ lines. give_record at ls lines)) ≡ Ok r → r.version ≡ at.version
      by_lines ls (Ok p) h = let same : record_of at ls p.0 p.1 ≡ r = cc in sym (ap (λ (x : CompiledLibrary). x.version) same)
      by_lines ls (Err f) h = absurd (cc)

      by_exports : (x : Result (List ImportedName × State) Fault) → record_in (after x (λ ls s'. after (finish_all go 0 taken.waiting s') (λ lines. give_record at ls lines))) ≡ Ok r → r.version ≡ at.version
      by_exports (Ok p) h = by_lines p.0 (finish_all go 0 taken.waiting p.1) h
      by_exports (Err f) h = absurd (cc)

  top-version : (forms : List Tree) (s : State) (r : CompiledLibrary) → record_in (top go at es forms s) ≡ Ok r → r.version ≡ at.version
  unfolding top
  top-version forms s r h = by (first_pass go at forms s) h
    where
      by : (x : Result (Taken × State) Fault) → record_in (after x (second_pass go at es)) ≡ Ok r → r.version ≡ at.version
      by (Ok p) h = finished-version p.0 p.1 r h
      by (Err f) h = absurd (cc)

module _ (prelude : Result Codes Fault) (records : List CompiledLibrary) (path : List ℕ) (form : LibraryForm) (body : List PlainDatum) (r : CompiledLibrary) where
  pub library-version : expand_library prelude records path form body ≡ Ok r → r.version ≡ form.version
  unfolding expand_library
  library-version h = by_names (form_names records form.imports) h
    where
      by_expander : (names : Labelled) (forms : List Tree) (x : Result Codes Fault)
          → ((x >>= (λ codes. Ok (ready form.name records names codes))) >>= (λ e. library_record e records (body_with path form forms))) ≡ Ok r → r.version ≡ form.version
      by_expander names forms (Ok codes) h =
          top-version (inside records full_room) (top_at (first_frame form.name) (body_with path form forms)) (map export_tree form.exports) forms
          (ready form.name records names codes).state r h
      by_expander names forms (Err f) h = absurd (cc)

      by_forms : (names : Labelled) (x : Result (List Tree) Fault)
          → (x >>= (λ forms. expander_of prelude form.name records names >>= (λ e. library_record e records (body_with path form forms)))) ≡ Ok r → r.version ≡ form.version
      by_forms names (Ok forms) h = by_expander names forms prelude h
      by_forms names (Err f) h = absurd (cc)

      by_names : (x : Result Labelled Fault)
          → (x >>= (λ names. trees_at form.name_span [] body >>= (λ forms. expander_of prelude form.name records names >>= (λ e. library_record e records (body_with path form forms))))) ≡ Ok r → r.version ≡ form.version
      by_names (Ok names) h = by_forms names (trees_at form.name_span [] body) h
      by_names (Err f) h = absurd (cc)
