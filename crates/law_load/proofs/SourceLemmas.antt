-- A file that was read gives one library, or the program.
use Rattle.std.proofs.Common.{◌≡◌, ℕ, Bool, true, false, cond, List, [], ◌∷◌, Result, Ok, Err, Option, Some, None, refl, sym, ap, subst, ◌∙◌}
use Rattle.std.specs.Prelude.{is_some, codes, if◌then◌else◌}
use Rattle.std.proofs.lemmas.Slice.Eq.{bytes_eq-Decides}
use Rattle.base_data.specs.Same.{same_library}
use Rattle.base_data.specs.Datum.{PlainDatum, proper_elements, symbol_text}
use Rattle.base_data.specs.Gives.{◌>>=◌}
use Rattle.base_data.specs.declared.fault.Fault.{Fault}
use Rattle.base_data.specs.declared.library.LibName.{LibName}
use Rattle.load_forms.specs.All.{given}
use Rattle.load_forms.specs.Form.{behind_word, form_of, not_library, or_fault, library_in, program_of, read_library, read_program}
use Rattle.load_forms.specs.Set.{datum_place}
use Rattle.load_forms.specs.Words.{is_text, is_word}
use Rattle.load_forms.specs.declared.form.LibraryForm.{LibraryForm}
use Rattle.read_reader.specs.Read.{data_of, file_nesting}
use Rattle.load_files.specs.Load.{opened, program_in}
use Rattle.load_files.specs.Load as load
use Rattle.load_files.specs.declared.found.Opened.{Opened}

-- ---- no form begins with two words

both_words : (d : PlainDatum) → is_word (codes "library") d ≡ true → is_word (codes "import") d ≡ true → ⊥
both_words d h k = by (symbol_text d) h k
  where
    by : (o : Option (List ℕ)) → is_text (codes "library") o ≡ true → is_text (codes "import") o ≡ true → ⊥
    by None h k = cc
    by (Some text) h k =
        let a = (bytes_eq-Decides text (codes "library")).0 h in
        let b = (bytes_eq-Decides text (codes "import")).0 k in
        let same : codes "library" ≡ codes "import" = sym a ∙ b in
        cc

has_form : (word : List ℕ) (d : PlainDatum) → is_some (form_of word d) ≡ true → (e : PlainDatum) × (es : List PlainDatum) × (proper_elements d ≡ Some (e ∷ es)) × (is_word word e ≡ true)
has_form word d h = by (proper_elements d) refl h
  where
    Has : Type 0
    Has = (e : PlainDatum) × (es : List PlainDatum) × (proper_elements d ≡ Some (e ∷ es)) × (is_word word e ≡ true)

    by_word : (e : PlainDatum) (es : List PlainDatum) (b : Bool) → is_word word e ≡ b → proper_elements d ≡ Some (e ∷ es) → ◌≡◌ {A = Bool} (is_some (cond b (Some es) None)) true → Has
    by_word e es true w at h = (e, es, at, w)
    by_word e es false w at h = absurd (cc)

    by : (o : Option (List PlainDatum)) → proper_elements d ≡ o → is_some (given o (behind_word word)) ≡ true → Has
    by None at h = absurd (cc)
    by (Some []) at h = absurd (cc)
    by (Some (e ∷ es)) at h = by_word e es (is_word word e) refl at h

both_forms : (d : PlainDatum) → is_some (form_of (codes "library") d) ≡ true → is_some (form_of (codes "import") d) ≡ true → ⊥
both_forms d h k =
    let a = has_form (codes "library") d h in
    let b = has_form (codes "import") d k in
    let same : ◌≡◌ {A = Option (List PlainDatum)} (Some (a.0 ∷ a.1)) (Some (b.0 ∷ b.1)) = sym a.2 ∙ b.2 in
    let first : a.0 ≡ b.0 = cc in
    both_words b.0 (subst (λ e. is_word (codes "library") e ≡ true) first a.3) b.3

or_fault_some : {A B : Type 0} (fault : Fault) (o : Option A) (f : A → Result B Fault) (b : B) → or_fault fault o f ≡ Ok b → is_some o ≡ true
or_fault_some fault None f b h = absurd (cc)
or_fault_some fault (Some a) f b h = refl

not_both : (path : List ℕ) (ds : List PlainDatum) (f g : LibraryForm) → read_library path ds ≡ Ok f → read_program path ds ≡ Ok g → ⊥
not_both path [] f g h k = cc
not_both path (d ∷ []) f g h k =
    both_forms d
    (or_fault_some (not_library path (d ∷ [])) (form_of (codes "library") d) (library_in path (not_library path (d ∷ []))) f h)
    (or_fault_some (not_library path (d ∷ [])) (form_of (codes "import") d) (program_of path (datum_place path d)) g k)
not_both path (d ∷ e ∷ ds) f g h k = cc

-- ---- the form in a file

abbrev pub library_form : List ℕ → List ℕ → Result LibraryForm Fault
library_form path held = data_of path held file_nesting >>= read_library path

opened_form : (name : LibName) (path : List ℕ) (ds : List PlainDatum) (form : LibraryForm) (o : Opened) → opened name path ds form ≡ Ok o → form ≡ o.form
opened_form name path ds form o h = by (same_library form.name name) h
  where
    by : (b : Bool) → (if b then Ok (record { path = path; form = form; «data» = ds }) else Err (load.differs form)) ≡ Ok o → form ≡ o.form
    by true h =
        let same : ◌≡◌ {A = Opened} (record { path = path; form = form; «data» = ds }) o = cc in
        ap (λ (x : Opened). x.form) same
    by false h = absurd (cc)

pub library_is : (name : LibName) (path held : List ℕ) (o : Opened) → load.library_in name path held ≡ Ok o → library_form path held ≡ Ok o.form
unfolding load.library_in
library_is name path held o h = by_data (data_of path held file_nesting) h
  where
    by_form : (ds : List PlainDatum) (r : Result LibraryForm Fault) → (r >>= (λ form. opened name path ds form)) ≡ Ok o → r ≡ Ok o.form
    by_form ds (Ok form) h = ap (λ (x : LibraryForm). Ok x) (opened_form name path ds form o h)
    by_form ds (Err f) h = absurd (cc)

    by_data : (r : Result (List PlainDatum) Fault) → (r >>= (λ ds. read_library path ds >>= (λ form. opened name path ds form))) ≡ Ok o → (r >>= read_library path) ≡ Ok o.form
    by_data (Ok ds) h = by_form ds (read_library path ds) h
    by_data (Err f) h = absurd (cc)

pub library_not_program : (path held : List ℕ) (f : LibraryForm) (o : Opened) → library_form path held ≡ Ok f → program_in path held ≡ Ok o → ⊥
unfolding program_in
library_not_program path held f o h k = by_data (data_of path held file_nesting) h k
  where
    by_form : (ds : List PlainDatum) (r : Result LibraryForm Fault) → read_program path ds ≡ r → read_library path ds ≡ Ok f → (r >>= (λ form. Ok (record { path = path; form = form; «data» = ds }))) ≡ Ok o → ⊥
    by_form ds (Ok g) e h k = not_both path ds f g h e
    by_form ds (Err g) e h k = cc

    by_data : (r : Result (List PlainDatum) Fault) → (r >>= read_library path) ≡ Ok f → (r >>= (λ ds. read_program path ds >>= (λ form. Ok (record { path = path; form = form; «data» = ds })))) ≡ Ok o → ⊥
    by_data (Ok ds) h k = by_form ds (read_program path ds) refl h k
    by_data (Err g) h k = cc
