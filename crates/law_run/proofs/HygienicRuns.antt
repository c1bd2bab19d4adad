-- Every record of a run is hygienic.
use Rattle.std.proofs.Common.{◌≡◌, ℕ, zero, suc, ◌+◌, ◌<◌, Bool, true, false, List, [], ◌∷◌, ◌++◌, length, map, Option, Some, None, Result, Ok, Err, refl, sym, ap, subst, ◌∙◌, inl, inr, arith, append-nil}
use Rattle.std.specs.Prelude.{slice_get}
use Rattle.base_data.proofs.ElementLemmas.{each-implied}
use Rattle.base_data.specs.Datum.{PlainDatum}
use Rattle.base_data.specs.Elements.{Among, Each}
use Rattle.base_data.specs.Gives.{◌>>=◌}
use Rattle.base_data.specs.declared.fault.Fault.{Fault}
use Rattle.base_data.specs.declared.library.LibName.{LibName}
use Rattle.base_data.specs.declared.library.LibName.TheVariants as library
use Rattle.base_data.specs.declared.name.FrameNo.{FrameNo}
use Rattle.base_data.specs.declared.name.Mark.{Mark}
use Rattle.load_builtin.specs.Exports.{derived}
use Rattle.load_builtin.specs.declared.derived.TheConstants.{DERIVED_SOURCE}
use Rattle.core_language.specs.declared.record.CompiledLibrary.{CompiledLibrary}
use Rattle.law_core.specs.Follows.{names_of}
use Rattle.base_data.specs.Elements as elements
use Rattle.run_derived.specs.Derived.{forms_of, record_of, derived_record, derived_body}
use Rattle.run_derived.specs.Names as derived_names
use Rattle.eval_code.specs.Codes.{Codes}
use Rattle.expand_forms.specs.Expanding.{library_record}
use Rattle.load_forms.specs.Form.{library_body, program_body}
use Rattle.load_forms.specs.declared.form.LibraryForm.{LibraryForm}
use Rattle.law_fresh_expansion.specs.Events.{HasEvents}
use Rattle.law_fresh_expansion.specs.Known.{libraries_of, IsNewAmong}
use Rattle.law_fresh_expansion.specs.RecordMarks.{IsOfOne, IsFrameOfOne, HasOnly, RecordHasOnly, WasRead}
use Rattle.law_fresh_expansion.proofs.Once.{events-wider}
use Rattle.law_fresh_expansion.proofs.Recorded.{events-stay}
use Rattle.law_fresh_expansion.proofs.Standing.{bindings-wider}
use Rattle.law_fresh.specs.Leaves.{CodesHold}
use Rattle.law_fresh.proofs.Trees.{OkHolds}
use Rattle.law_fresh.proofs.Wider.{codes_wider, lines_wider}
use Rattle.load_import.specs.Names.{Labelled}
use Rattle.run_library.specs.Imports.{form_names}
use Rattle.run_library.specs.Library.{trees_at, expander_of, expand_library, body_with}
use Rattle.run_library.specs.Loaded.{all_records, expand_found}
use Rattle.run_library.specs.Records.{needed_records}
use Rattle.load_files.specs.Found.{places_from, needed}
use Rattle.load_files.specs.declared.found.Found.{Found}
use Rattle.load_files.specs.declared.found.Loading.{Loading}
use Rattle.law_load.specs.Laws.{IsAt, IsNeeded, NeedsAreClosed}
use Rattle.law_load.proofs.LoadLemmas.{loads_all}
use Rattle.law_load.proofs.ReferLemmas.{IsSound}
use Rattle.law_load.proofs.RowLemmas.{at_first}
use Rattle.base_outside.specs.Contents.{Paths}
use Rattle.run_prelude.specs.Prelude.{prelude_table}
use Rattle.law_references.proofs.Recording.{records-hygienic}
use Rattle.expand_standing.specs.Start.{or_skip, records_at}
use Rattle.stx_tree.specs.Context.{LeafContext, blank}
use Rattle.stx_tree.specs.Tree.{Tree}
use Rattle.stx_tree.specs.declared.frame_row.FrameRow.{FrameRow}
use Rattle.law_run.specs.Hygienic.{IsNoLeaf, IsHygienicBehind, IsHygienicDerived, PartIsHygienic, PartsAreHygienic, RunsAreHygienic}
use Rattle.law_run.proofs.BehindLemmas.{IsNew}
use Rattle.law_run.proofs.HygienicForms.{codes-without, forms-read, ok-holds, derived-read, exports-read, derived-exports-read}
use Rattle.law_run.proofs.MadeLemmas.{IsMade, all_made}
use Rattle.law_run.proofs.NameLemmas.{IsNamed, named_among}
use Rattle.law_run.proofs.PlaceLemmas.{marked_from, first_records, low_behind}
use Rattle.law_run.proofs.NamedFiles.{IsUser, AllUsers, users-all}
use Rattle.law_run.proofs.PartBehind.{Behind, AllMadeBehind, library-new, program-new}
use Rattle.law_run.proofs.PartFits.{IsLoaded, loaded-is, parts-are}
use Rattle.law_run.proofs.PartRows.{IsFirst}
use Rattle.law_run.proofs.UserLemmas.{program_name}
use Rattle.law_local.proofs.BehindLemmas.{with_first}
use Rattle.law_local.proofs.Part.{same_place}

-- Names.

in-words : (rs : List CompiledLibrary) (n : LibName) → Among (map (λ (r : CompiledLibrary). r.name) rs) n → elements.Among (names_of rs) n
in-words [] n a = elim a [ ]
in-words (r ∷ rs) n (inl e) = inl e
in-words (r ∷ rs) n (inr a) = inr (in-words rs n a)

name-there : (rs : List CompiledLibrary) (r : CompiledLibrary) → elements.Among rs r → Among (map (λ (r : CompiledLibrary). r.name) rs) r.name
name-there [] r a = elim a [ ]
name-there (x ∷ rs) r (inl e) = inl (ap (λ (y : CompiledLibrary). y.name) e)
name-there (x ∷ rs) r (inr a) = inr (name-there rs r a)

each-among : {A : Type 0} (P : A → Type 0) (xs : List A) → ((x : A) → elements.Among xs x → P x) → Each P xs
each-among P [] h = tt
each-among P (x ∷ xs) h = (h x (inl refl), each-among P xs (λ y a. h y (inr a)))

-- what is marked is among the records at marked places
marked-there : (records : List CompiledLibrary) (k : ℕ) (ms : List Bool) (p : ℕ) (r : CompiledLibrary) → slice_get ms p ≡ Some true → slice_get records (k + p) ≡ Some r → elements.Among (records_at records (places_from k ms)) r
unfolding places_from
marked-there records k [] p r h e = absurd (cc)
marked-there records k (false ∷ ms) zero r h e = absurd (cc)
marked-there records k (false ∷ ms) (suc p) r h e = let next : k + suc p ≡ suc k + p = omega arith in marked-there records (suc k) ms p r h (subst (λ i. slice_get records i ≡ Some r) next e)
marked-there records k (true ∷ ms) zero r h e = by (slice_get records k) (let same : k + zero ≡ k = omega arith in subst (λ i. slice_get records i ≡ Some r) same e)
  where
    by : (o : Option CompiledLibrary) → o ≡ Some r → elements.Among (or_skip o (records_at records (places_from (suc k) ms))) r
    by None i = absurd (cc)
    by (Some x) i = let same : r ≡ x = cc in inl same
marked-there records k (true ∷ ms) (suc p) r h e = by (slice_get records k) (let next : k + suc p ≡ suc k + p = omega arith in marked-there records (suc k) ms p r h (subst (λ i. slice_get records i ≡ Some r) next e))
  where
    by : (o : Option CompiledLibrary) → elements.Among (records_at records (places_from (suc k) ms)) r → elements.Among (or_skip o (records_at records (places_from (suc k) ms))) r
    by None a = a
    by (Some x) a = inr a

-- Lists.

one-there : {A : Type 0} (xs : List A) (i : ℕ) (x y : A) → slice_get xs i ≡ Some x → slice_get xs i ≡ Some y → x ≡ y
one-there xs i x y e h = cc

same-head : (x y : CompiledLibrary) (xs ys : List CompiledLibrary) → x ∷ xs ≡ y ∷ ys → x ≡ y
same-head x y xs ys e = cc

same-tail : (x y : CompiledLibrary) (xs ys : List CompiledLibrary) → x ∷ xs ≡ y ∷ ys → xs ≡ ys
same-tail x y xs ys e = cc

-- Marks of more libraries.

abbrev Has : List LibName → CompiledLibrary → Type 0
Has libs r = RecordHasOnly HasEvents libs r

module _ (few many : List LibName) (within : (n : LibName) → Among few n → Among many n) where
  leaf-wider : (c : LeafContext) → HasOnly HasEvents few c → HasOnly HasEvents many c
  leaf-wider c h = events-wider (IsOfOne few) (IsOfOne many) (IsFrameOfOne few) (IsFrameOfOne many) (λ m k. within m.0.library k) (λ f k. within f.0.library k) c h

  record-wider : (r : CompiledLibrary) → Has few r → Has many r
  record-wider r h = record {
    run = lines_wider (HasOnly HasEvents few) (HasOnly HasEvents many) leaf-wider r.run h.run;
    bindings = bindings-wider (HasOnly HasEvents few) (HasOnly HasEvents many) leaf-wider r.bindings h.bindings;
    frames = each-implied (λ (f : FrameRow). Each (IsOfOne few) f.marks) (λ (f : FrameRow). Each (IsOfOne many) f.marks)
        (λ f k. each-implied (IsOfOne few) (IsOfOne many) (λ m i. within m.0.library i) f.marks k) r.frames h.frames;
  }

-- One library.

abbrev HasNoLeaves : Result Codes Fault → Type 0
HasNoLeaves prelude = (table : Codes) → prelude ≡ Ok table → CodesHold IsNoLeaf table

-- so whatever is asked of leaves, holds of them
any-held : (P : LeafContext → Type 0) (table : Codes) → CodesHold IsNoLeaf table → CodesHold P table
any-held P table h = codes_wider IsNoLeaf P (λ c k. elim k [ ]) table h

module _ (prelude : Result Codes Fault) (without : HasNoLeaves prelude) where
  abbrev Both : List CompiledLibrary → List ℕ → LibraryForm → List PlainDatum → CompiledLibrary → Type 0
  Both records path form body r = IsHygienicBehind prelude records path form body r × Has (form.name ∷ libraries_of records) r

  both-made : (records : List CompiledLibrary) (path : List ℕ) (form : LibraryForm) (body : List PlainDatum) (r : CompiledLibrary) → IsNewAmong (libraries_of records) form.name → Each (Has (libraries_of records)) records
      → expand_library prelude records path form body ≡ Ok r → Both records path form body r
  unfolding expand_library
  both-made records path form body r new before h = by-names (form_names records form.imports) refl h
    where
      by-codes : (names : Labelled) (forms : List Tree) → form_names records form.imports ≡ Ok names → trees_at form.name_span [] body ≡ Ok forms → (x : Result Codes Fault) → prelude ≡ x
          → (expander_of x form.name records names >>= (λ e. library_record e records (body_with path form forms))) ≡ Ok r → Both records path form body r
      by-codes names forms named read (Ok table) e h =
          let codes = any-held (HasOnly HasEvents (libraries_of records)) table (without table e) in
          let was = forms-read form.name_span body forms read in (
            record {
              names = names;
              named = named;
              forms = forms;
              read = read;
              table = table;
              given = e;
              right = records-hygienic form.name records names (body_with path form forms) table r new before codes was (exports-read form.exports) h;
            },
            events-stay.records form.name records names (body_with path form forms) table r new before codes was h,
          )
      by-codes names forms named read (Err f) e h = absurd (cc)

      by-forms : (names : Labelled) → form_names records form.imports ≡ Ok names → (x : Result (List Tree) Fault) → trees_at form.name_span [] body ≡ x
          → (x >>= (λ forms. expander_of prelude form.name records names >>= (λ e. library_record e records (body_with path form forms)))) ≡ Ok r → Both records path form body r
      by-forms names named (Ok forms) read h = by-codes names forms named read prelude refl h
      by-forms names named (Err f) read h = absurd (cc)

      by-names : (x : Result Labelled Fault) → form_names records form.imports ≡ x
          → (x >>= (λ names. trees_at form.name_span [] body >>= (λ forms. expander_of prelude form.name records names >>= (λ e. library_record e records (body_with path form forms))))) ≡ Ok r
          → Both records path form body r
      by-names (Ok names) named h = by-forms names named (trees_at form.name_span [] body) refl h
      by-names (Err f) named h = absurd (cc)

  -- The derived library.

  abbrev First : CompiledLibrary → Type 0
  First d = IsHygienicDerived prelude d × Has (library.Derived ∷ libraries_of []) d

  derived-new : IsNewAmong (libraries_of []) library.Derived
  derived-new (inl e) = absurd (cc)
  derived-new (inr a) = elim a [ ]

  from-forms : (d : CompiledLibrary) (table : Codes) (forms : List Tree) → forms_of DERIVED_SOURCE.now ≡ Ok forms → prelude ≡ Ok table → record_of table forms ≡ Ok d → First d
  unfolding record_of
  from-forms d table forms read given h =
      let codes = any-held (HasOnly HasEvents (libraries_of [])) table (without table given) in
      let was = ok-holds (Each WasRead) (forms_of DERIVED_SOURCE.now) forms (derived-read DERIVED_SOURCE.now) read in (
        record {
          forms = forms;
          read = read;
          table = table;
          given = given;
          right = records-hygienic library.Derived [] derived_names.names (derived_body forms) table d derived-new tt codes was (derived-exports-read derived) h;
        },
        events-stay.records library.Derived [] derived_names.names (derived_body forms) table d derived-new tt codes was h,
      )

  derived-made : (d : CompiledLibrary) → derived_record prelude ≡ Ok d → First d
  unfolding derived_record
  derived-made d h = by-forms (forms_of DERIVED_SOURCE.now) refl h
    where
      by-codes : (forms : List Tree) → forms_of DERIVED_SOURCE.now ≡ Ok forms → (x : Result Codes Fault) → prelude ≡ x → (x >>= (λ table. record_of table forms)) ≡ Ok d → First d
      by-codes forms read (Ok table) e h = from-forms d table forms read e h
      by-codes forms read (Err f) e h = absurd (cc)

      by-forms : (x : Result (List Tree) Fault) → forms_of DERIVED_SOURCE.now ≡ x → (x >>= (λ forms. prelude >>= (λ table. record_of table forms))) ≡ Ok d → First d
      by-forms (Ok forms) read h = by-codes forms read prelude refl h
      by-forms (Err f) read h = absurd (cc)

  -- One library after another.

  module _ (s : Loading) (sound : IsSound s) (users : AllUsers s.done) (rows left : List (List ℕ × Found)) (records : List CompiledLibrary) (parts : s.done ≡ rows ++ left)
      (m : IsMade prelude rows records) (first : IsFirst m.derived) (made : AllMadeBehind s m.derived m.others) where
    first-made : First m.derived
    first-made = derived-made m.derived m.made

    -- the record at a place
    abbrev HoldsAt : ℕ → Type 0
    HoldsAt i = (file : List ℕ) (f : Found) (r : CompiledLibrary) → IsAt s.done i file f → slice_get m.others i ≡ Some r
        → Both (Behind m.derived m.others f) f.opened.path f.opened.form (library_body f.opened.«data») r

    module _ (f : Found) (closed : NeedsAreClosed s.done f) (earlier : (i : ℕ) → i < f.place → HoldsAt i) where
      abbrev here : List CompiledLibrary
      here = records_at m.others (needed f)

      abbrev libs : List LibName
      libs = libraries_of (Behind m.derived m.others f)

      derived-here : Has libs m.derived
      derived-here = record-wider (library.Derived ∷ libraries_of []) libs within m.derived first-made.1
        where
          within : (n : LibName) → Among (library.Derived ∷ libraries_of []) n → Among libs n
          within n (inl e) = inr (inl (e ∙ sym first.stands.named))
          within n (inr (inl e)) = inl e
          within n (inr (inr a)) = elim a [ ]

      needed-here : (x : CompiledLibrary) → elements.Among here x → Has libs x
      needed-here x a =
          let y = marked_from m.others zero f.needs x a in
          let same : zero + y.place ≡ y.place = omega arith in
          by y.place (subst (λ p. slice_get m.others p ≡ Some x) same y.there) y.marked
        where
          by : (p : ℕ) → slice_get m.others p ≡ Some x → slice_get f.needs p ≡ Some true → Has libs x
          by p there marked = record-wider (g.opened.form.name ∷ libraries_of (Behind m.derived m.others g)) libs within x (earlier p n.before n.file g x n.there there).1
            where
              n : IsNeeded s.done f p
              n = closed p marked

              g : Found
              g = (closed p marked).library

              named-in : (k : LibName) → IsNamed (records_at m.others (needed g)) k → Among libs k
              named-in k i =
                  let z = marked_from m.others zero g.needs i.record_of i.among in
                  inr (inr (subst (Among (map (λ (r : CompiledLibrary). r.name) here)) i.name
                  (name-there here i.record_of (marked-there m.others zero f.needs z.place i.record_of ((closed p marked).also z.place z.marked) z.there))))

              within : (k : LibName) → Among (g.opened.form.name ∷ libraries_of (Behind m.derived m.others g)) k → Among libs k
              within k (inl e) =
                  let st = (made p (closed p marked).file g x (closed p marked).there there).stands in
                  inr (inr (subst (Among (map (λ (r : CompiledLibrary). r.name) here)) (st.named ∙ sym e) (name-there here x a)))
              within k (inr (inl e)) = inl e
              within k (inr (inr (inl e))) = inr (inl e)
              within k (inr (inr (inr b))) = named-in k (named_among (records_at m.others (needed g)) k (in-words (records_at m.others (needed g)) k b))

      behind-here : Each (Has libs) (Behind m.derived m.others f)
      behind-here = (derived-here, each-among (Has libs) here needed-here)

    new-among : (rs : List CompiledLibrary) (n : LibName) → (n ≡ library.Core → ⊥) → IsNew rs n → IsNewAmong (libraries_of rs) n
    new-among rs n other new (inl e) = other e
    new-among rs n other new (inr a) = new (in-words rs n a)

    module _ (i : ℕ) (earlier : (j : ℕ) → j < i → HoldsAt j) (file : List ℕ) (f : Found) (at : IsAt s.done i file f) where
      closed : NeedsAreClosed s.done f
      closed = (sound.stand i file f at).closed

      place : f.place ≡ i
      place = sound.once.in_order i file f at

      no-core : f.opened.form.name ≡ library.Core → ⊥
      no-core e = subst IsUser e (users i file f at)

      row-there : (r : CompiledLibrary) → slice_get m.others i ≡ Some r → IsAt rows i file f
      row-there r there =
          let y = same_place m.others rows i r m.as_many there in
          let e : slice_get s.done i ≡ Some y.0 = subst (λ (xs : List (List ℕ × Found)). slice_get xs i ≡ Some y.0) (sym parts) (at_first rows left i y.0 y.1) in
          subst (λ (z : List ℕ × Found). slice_get rows i ≡ Some z) (one-there s.done i y.0 (file, f) e at) y.1

      holds-here : (r : CompiledLibrary) → slice_get m.others i ≡ Some r → Both (Behind m.derived m.others f) f.opened.path f.opened.form (library_body f.opened.«data») r
      holds-here r there =
          let x = m.each i file f r (row-there r there) there in
          let many = x.many in
          let is_at = place in
          let low : (p : ℕ) → slice_get (true ∷ f.needs) p ≡ Some true → zero + p < length x.before =
          low_behind (length x.before) f.needs (λ p h. let l = (closed p h).before in omega (arith, l, many, is_at)) (omega (arith, many)) in
          let same : needed_records x.before (true ∷ f.needs) ≡ Behind m.derived m.others f =
          sym (first_records x.before x.after zero (true ∷ f.needs) low) ∙ ap (λ (rs : List CompiledLibrary). needed_records rs (true ∷ f.needs)) (sym x.parts) ∙ with_first m.derived m.others f.needs in
          both-made (Behind m.derived m.others f) f.opened.path f.opened.form (library_body f.opened.«data») r
          (new-among (Behind m.derived m.others f) f.opened.form.name no-core (library-new s sound users m.derived first.stands first.behind m.others made f closed i file at))
          (behind-here f closed (λ j l. earlier j (omega (arith, l, is_at))))
          (subst (λ (rs : List CompiledLibrary). expand_library prelude rs f.opened.path f.opened.form (library_body f.opened.«data») ≡ Ok r) same x.made)

    holds-below : (n i : ℕ) → i < n → HoldsAt i
    holds-below zero i less = absurd (omega (arith, less))
    holds-below (suc n) i less = λ file f r at there. holds-here i (λ j l. holds-below n j (omega (arith, l, less))) file f at r there

    holds-at : (i : ℕ) → HoldsAt i
    holds-at i = holds-below (suc i) i (omega arith)

    program-holds : (found : Found) → NeedsAreClosed s.done found → found.opened.form.name ≡ library.Program → (body : List PlainDatum) (program : CompiledLibrary) → expand_found prelude records found body ≡ Ok program
        → Both (Behind m.derived m.others found) found.opened.path found.opened.form body program
    program-holds found closed named body program h =
        let same : needed_records records (true ∷ found.needs) ≡ Behind m.derived m.others found =
        ap (λ (rs : List CompiledLibrary). needed_records rs (true ∷ found.needs)) m.parts ∙ with_first m.derived m.others found.needs in
        both-made (Behind m.derived m.others found) found.opened.path found.opened.form body program
        (new-among (Behind m.derived m.others found) found.opened.form.name (λ e. let bad : library.Program ≡ library.Core = sym named ∙ e in absurd (cc))
        (program-new s sound users m.derived first.stands first.behind m.others made found closed found.opened.form.name named))
        (behind-here found closed (λ j l. holds-at j))
        (subst (λ (rs : List CompiledLibrary). expand_library prelude rs found.opened.path found.opened.form body ≡ Ok program) same h)

    abbrev all-hygienic : PartIsHygienic prelude rows records
    all-hygienic = record {
      derived = m.derived;
      others = m.others;
      parts = m.parts;
      as_many = m.as_many;
      all = record {
        first = first-made.0;
        each = λ i file f r at there.
            (holds-at i file f r (subst (λ (xs : List (List ℕ × Found)). slice_get xs i ≡ Some (file, f)) (sym parts) (at_first rows left i (file, f) at)) there).0;
      };
    }

-- A part of a run, as far as it came.

record IsMadeSo (prelude : Result Codes Fault) (s : Loading) (rows : List (List ℕ × Found)) (records : List CompiledLibrary) : Type 0 where
  made : IsMade prelude rows records
  first : IsFirst made.derived
  behind : AllMadeBehind s made.derived made.others

made-so : (prelude : Result Codes Fault) (s : Loading) (sound : IsSound s) (users : AllUsers s.done) (rows left : List (List ℕ × Found)) (records : List CompiledLibrary) → s.done ≡ rows ++ left → all_records prelude rows ≡ Ok records
    → IsMadeSo prelude s rows records
made-so prelude s sound users rows left records parts recorded =
    let m = all_made prelude rows records recorded in
    let p = parts-are s sound users prelude rows left records parts recorded in
    let e = sym p.so.parts ∙ m.parts in
    record {
      made = m;
      first = subst IsFirst (same-head p.derived m.derived p.so.others m.others e) p.first;
      behind = subst (λ (d : CompiledLibrary). AllMadeBehind s d m.others) (same-head p.derived m.derived p.so.others m.others e)
          (subst (λ (os : List CompiledLibrary). AllMadeBehind s p.derived os) (same-tail p.derived m.derived p.so.others m.others e) p.so.made);
    }

pub parts-hygienic : PartsAreHygienic
parts-hygienic files roots path s rows left records part =
    let l = subst IsLoaded part.loaded (loaded-is files roots path) in
    let x = made-so prelude_table s l.sound l.users rows left records part.parts part.recorded in
    all-hygienic prelude_table codes-without s l.sound l.users rows left records part.parts x.made x.first x.behind

pub runs-hygienic : RunsAreHygienic
runs-hygienic files roots path found s records program run =
    let all = loads_all files roots path found s run.loaded in
    let users = users-all files roots path found s run.loaded in
    let end = sym (append-nil s.done) in
    let x = made-so prelude_table s all.sound users s.done [] records end run.recorded in
    record {
      libraries = all-hygienic prelude_table codes-without s all.sound users s.done [] records end x.made x.first x.behind;
      last = (program-holds prelude_table codes-without s all.sound users s.done [] records end x.made x.first x.behind found all.stands.closed
          (program_name files roots path found s run.loaded) (program_body found.opened.«data») program run.expanded).0;
    }
