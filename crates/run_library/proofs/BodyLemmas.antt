-- The record and the links that a body gives are those of the form and the data from which the body was read.
use Rattle.std.proofs.Common.{◌≡◌, ℕ, List, [], ◌∷◌, Bool, true, Result, Ok, Err, refl, sym, ap, subst, ◌∙◌}
use Rattle.base_data.specs.Datum.{PlainDatum}
use Rattle.base_data.specs.Gives.{Stops, ◌>>=◌}
use Rattle.base_data.specs.declared.fault.Fault.{Fault}
use Rattle.base_data.specs.declared.fault.Stop.{Stop}
use Rattle.base_data.specs.declared.fault.Stop.TheVariants as stops
use Rattle.core_language.specs.declared.record.CompiledLibrary.{CompiledLibrary}
use Rattle.base_data.specs.declared.library.LibName.{LibName}
use Rattle.eval_code.specs.Codes.{Codes}
use Rattle.expand_forms.specs.Expanding.{library_linked}
use Rattle.expand_forms.specs.declared.top.LibraryBody.{LibraryBody}
use Rattle.load_forms.specs.declared.form.LibraryForm.{LibraryForm}
use Rattle.load_import.specs.Names.{Labelled}
use Rattle.stx_tree.specs.Tree.{Tree}
use Rattle.run_library.specs.Imports.{form_names}
use Rattle.run_prelude.specs.Spent.{spent_behind}
use Rattle.run_library.specs.Library.{trees_at, body_with, expander_of, body_of, expand_body, link_library, body_spent, form_spent}
use Rattle.run_library.specs.Records.{needed_records}
use Rattle.run_library.specs.declared.library.Unexpanded.{Unexpanded}

abbrev with_names : LibName → Labelled → LibraryBody → Unexpanded
with_names name names body = record { name = name; imports = names; body = body }

module _ (path : List ℕ) (form : LibraryForm) {C : Type 0} (g : Unexpanded → Result C Fault) where
  forms_then : (names : Labelled) (trees : Result (List Tree) Fault)
      → (((trees >>= (λ forms. Ok (body_with path form forms))) >>= (λ body. Ok (with_names form.name names body))) >>= g)
      ≡ (trees >>= (λ forms. g (with_names form.name names (body_with path form forms))))
  forms_then names (Ok forms) = refl
  forms_then names (Err e) = refl

  names_then : (r : Result Labelled Fault) (trees : Result (List Tree) Fault)
      → ((r >>= (λ names. (trees >>= (λ forms. Ok (body_with path form forms))) >>= (λ body. Ok (with_names form.name names body)))) >>= g)
      ≡ (r >>= (λ names. trees >>= (λ forms. g (with_names form.name names (body_with path form forms)))))
  names_then (Ok names) trees = forms_then names trees
  names_then (Err e) trees = refl

module _ (prelude : Result Codes Fault) (records : List CompiledLibrary) (path : List ℕ) (form : LibraryForm) (body : List PlainDatum) where
  by_body : (body_of records path form body >>= expand_body prelude records) ≡ link_library prelude records path form body
  unfolding body_of expand_body link_library
  by_body =
      names_then path form (λ read. expander_of prelude read.name records read.imports >>= (λ e. library_linked e records read.body))
      (form_names records form.imports) (trees_at form.name_span [] body)

  pub library_given : (read : Unexpanded) → body_of records path form body ≡ Ok read → expand_body prelude records read ≡ link_library prelude records path form body
  library_given read h = sym (ap (λ r. r >>= expand_body prelude records) h) ∙ by_body

  pub library_stops : (stop : Stop) → Stops stop (body_of records path form body) → Stops stop (link_library prelude records path form body)
  library_stops stops.Memory h = tt
  library_stops (stops.Fault f) h = sym by_body ∙ ap (λ r. r >>= expand_body prelude records) h

-- the same behind the records that a file needs
module _ (prelude : Result Codes Fault) (records : List CompiledLibrary) (path : List ℕ) (form : LibraryForm) (needs : List Bool) (body other : List PlainDatum) where
  pub read_given : (marks again : List Bool) (read : Unexpanded) → marks ≡ true ∷ needs → again ≡ true ∷ needs → other ≡ body → body_of (needed_records records marks) path form other ≡ Ok read
      → expand_body prelude (needed_records records again) read ≡ link_library prelude (needed_records records (true ∷ needs)) path form body
  read_given marks again read is same e h =
      ap (λ m. expand_body prelude (needed_records records m) read) same
      ∙ library_given prelude (needed_records records (true ∷ needs)) path form body read
      (ap (λ m. body_of (needed_records records m) path form body) (sym is) ∙ ap (λ b. body_of (needed_records records marks) path form b) (sym e) ∙ h)

  pub read_stops : (marks : List Bool) (stop : Stop) → marks ≡ true ∷ needs → other ≡ body → Stops stop (body_of (needed_records records marks) path form other)
      → Stops stop (link_library prelude (needed_records records (true ∷ needs)) path form body)
  read_stops marks stop is e h =
      library_stops prelude (needed_records records (true ∷ needs)) path form body stop
      (subst (λ b. Stops stop (body_of (needed_records records (true ∷ needs)) path form b)) e (subst (λ m. Stops stop (body_of (needed_records records m) path form other)) is h))

  -- and so is the fuel that is spent
  pub read_spent : (marks again : List Bool) (read : Unexpanded) → marks ≡ true ∷ needs → again ≡ true ∷ needs → other ≡ body → body_of (needed_records records marks) path form other ≡ Ok read
      → body_spent prelude (needed_records records again) read ≡ form_spent prelude (needed_records records (true ∷ needs)) path form body
  unfolding form_spent
  read_spent marks again read is same e h =
      ap (λ m. body_spent prelude (needed_records records m) read) same
      ∙ sym (ap (λ r. spent_behind r (body_spent prelude (needed_records records (true ∷ needs))))
      (ap (λ m. body_of (needed_records records m) path form body) (sym is) ∙ ap (λ b. body_of (needed_records records marks) path form b) (sym e) ∙ h))
