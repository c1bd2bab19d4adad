-- The records of a run, and where the expansions of a run begin.
use Rattle.std.proofs.Common.{◌≡◌, ℕ, zero, suc, true, List, [], ◌∷◌, ◌++◌, length, Option, None, Some, Result, Ok, Err, refl, sym, ◌∙◌, ap, subst, inl, inr, arith, append_assoc}
use Rattle.std.specs.Prelude.{slice_get}
use Rattle.base_data.specs.Datum.{PlainDatum}
use Rattle.base_data.specs.Elements.{Each, Among, Once}
use Rattle.base_data.specs.Gives.{◌>>=◌}
use Rattle.base_data.specs.declared.fault.Fault.{Fault}
use Rattle.base_data.specs.declared.library.LibName.{LibName}
use Rattle.base_data.specs.declared.library.LibName.TheVariants as library
use Rattle.load_builtin.specs.Exports.{derived}
use Rattle.load_builtin.specs.declared.derived.TheConstants.{DERIVED_SOURCE}
use Rattle.stx_tree.specs.Tree.{Tree}
use Rattle.stx_tree.specs.declared.frame_row.FrameRow.{FrameRow}
use Rattle.core_language.specs.declared.record.CompiledLibrary.{CompiledLibrary}
use Rattle.law_core.specs.Follows.{names_of, bound_labels, IsOwn}
use Rattle.run_derived.specs.Derived.{forms_of, record_of, derived_record, derived_body}
use Rattle.run_derived.specs.Names.{path}
use Rattle.run_derived.specs.Names as derived_library
use Rattle.eval_code.specs.Codes.{Codes}
use Rattle.expand_forms.specs.Expanding.{library_record}
use Rattle.load_forms.specs.Form.{library_body}
use Rattle.load_forms.specs.declared.form.LibraryForm.{LibraryForm}
use Rattle.load_forms.specs.declared.set.Import.{Import}
use Rattle.load_import.specs.Names.{Labelled, import_names, joined}
use Rattle.load_import.specs.Turns.{turns}
use Rattle.law_imports.specs.Algebra.{IsOnce}
use Rattle.law_imports.proofs.AlgebraLemmas.{once-joined}
use Rattle.run_library.specs.Imports.{exported, refer, import_into, form_names}
use Rattle.run_library.specs.Library.{trees_at, expander_of, expand_library, body_with}
use Rattle.run_library.specs.Records.{needed_records}
use Rattle.load_files.specs.Found.{places_from, needed}
use Rattle.load_files.specs.declared.found.Found.{Found}
use Rattle.load_files.specs.declared.found.Loading.{Loading}
use Rattle.law_load.specs.Laws.{IsAt}
use Rattle.base_outside.specs.Contents.{Paths}
use Rattle.expand_standing.specs.Start.{or_skip, records_at}
use Rattle.law_run.specs.Run.{run_inputs, IsRun, Stands, AllStand}
use Rattle.law_run.proofs.ImportLemmas.{turns_keep}
use Rattle.law_run.proofs.MadeLemmas.{IsMade, all_made}
use Rattle.law_run.proofs.RunLemmas.{all_records_stand}
use Rattle.law_run.proofs.UserLemmas.{IsUser, user_at}
use Rattle.law_run.specs.Expansion.{IsOnceOver}
use Rattle.law_run.specs.Fitting.{AllFit, RecordsFit, BeginsApart, ExpansionsBegin}
use Rattle.law_run.proofs.Derived.{derived-names-once}
use Rattle.law_run.proofs.Starts.{IsApart, names-apart, begins}
use Rattle.law_run.proofs.Tops.{once-behind}
use Rattle.law_local.proofs.Part.{same_place}

-- Names of a form come once.

module _ (records : List CompiledLibrary) where
  into-once : (names : Labelled) (i : Import) (more r : Labelled) → IsOnce names → import_into records names i ≡ Ok r → IsOnce r
  into-once names i more r o h = by (import_names i.set i.span (exported records i.set.library)) h
    where
      by : (x : Result Labelled Fault) → (x >>= (λ ms. joined i.span names ms)) ≡ Ok r → IsOnce r
      by (Ok ms) k = once-joined i.span names ms r o k
      by (Err f) k = absurd (cc)

  each-any : {A : Type 0} (xs : List A) → Each (λ x. Unit {0}) xs
  each-any [] = tt
  each-any (x ∷ xs) = (tt, each-any xs)

  pub names-once : (imports : List Import) (names : Labelled) → form_names records imports ≡ Ok names → IsOnce names
  unfolding form_names
  names-once imports names h = by (turns (refer records) tt imports) h
    where
      by : (x : Result (Unit {0}) Fault) → (x >>= (λ done. turns (import_into records) [] imports)) ≡ Ok names → IsOnce names
      by (Ok d) k = turns_keep (import_into records) IsOnce (λ i. Unit {0}) (λ s t i o q e. into-once s i [] t o e) imports [] names (each-any imports) tt k
      by (Err f) k = absurd (cc)

-- Lists and places.

module _ {A : Type 0} (P : A → Type 0) where
  pub of-places : (xs : List A) → ((i : ℕ) (x : A) → slice_get xs i ≡ Some x → P x) → Each P xs
  of-places [] h = tt
  of-places (x ∷ xs) h = (h zero x refl, of-places xs (λ i y e. h (suc i) y e))

  pub at-place : (xs : List A) (i : ℕ) (x : A) → Each P xs → slice_get xs i ≡ Some x → P x
  at-place [] i x h e = absurd (cc)
  at-place (y ∷ ys) zero x h e = let same : y ≡ x = cc in subst P same h.0
  at-place (y ∷ ys) (suc i) x h e = at-place ys i x h.1 e

  each-first : (xs ys : List A) → Each P (xs ++ ys) → Each P xs
  each-first [] ys h = tt
  each-first (x ∷ xs) ys h = (h.0, each-first xs ys h.1)

pub each-records : (P : CompiledLibrary → Type 0) (rs : List CompiledLibrary) (is : List ℕ) → Each P rs → Each P (records_at rs is)
each-records P rs [] h = tt
each-records P rs (i ∷ is) h = by (slice_get rs i) refl (each-records P rs is h)
  where
    by : (o : Option CompiledLibrary) → slice_get rs i ≡ o → Each P (records_at rs is) → Each P (or_skip o (records_at rs is))
    by None e rest = rest
    by (Some r) e rest = (at-place P rs i r h e, rest)

-- those of one list, and what comes first behind it
once-apart : (xs : List CompiledLibrary) (r : CompiledLibrary) (ys : List CompiledLibrary) → Once (names_of (xs ++ r ∷ ys)) → Each (λ (x : CompiledLibrary). x.name ≡ r.name → ⊥) xs
once-apart [] r ys h = tt
once-apart (x ∷ xs) r ys h = ((λ e. h.0 (subst (Among (names_of (xs ++ r ∷ ys))) (sym e) (there xs))), once-apart xs r ys h.1)
  where
    there : (zs : List CompiledLibrary) → Among (names_of (zs ++ r ∷ ys)) r.name
    there [] = inl refl
    there (z ∷ zs) = inr (there zs)

record IsNext (before after : List CompiledLibrary) (r : CompiledLibrary) : Type 0 where
  pub rest : List CompiledLibrary
  pub is : after ≡ r ∷ rest

next-at : (before after : List CompiledLibrary) (n : ℕ) (r : CompiledLibrary) → length before ≡ n → slice_get (before ++ after) n ≡ Some r → IsNext before after r
next-at [] [] n r e h = absurd (cc)
next-at [] (x ∷ xs) zero r e h = let same : x ≡ r = cc in record { rest = xs; is = ap (λ (y : CompiledLibrary). y ∷ xs) same }
next-at [] (x ∷ xs) (suc n) r e h = absurd (omega (arith, e))
next-at (b ∷ before) after zero r e h = absurd (omega (arith, e))
next-at (b ∷ before) after (suc n) r e h = let x = next-at before after n r (omega (arith, e)) h in record { rest = x.rest; is = x.is }

-- One record.

-- a record can be put beside those of other libraries
pub record OneFits (r : CompiledLibrary) : Type 0 where
  pub own_rows : Each (λ (f : FrameRow). IsOwn r f.frame.0) r.frames
  pub own_labels : Each (λ l. IsOwn r l.0) (bound_labels r)
  pub once : IsOnceOver r

pub one-fits : (earlier : List CompiledLibrary) (name : LibName) (r : CompiledLibrary) → Stands earlier name r → IsOnceOver r → OneFits r
one-fits earlier name r st o = record { own_rows = st.serves.own_frames; own_labels = st.serves.own_bindings; once = o }

module _ (prelude : Result Codes Fault) (records : List CompiledLibrary) (path : List ℕ) (form : LibraryForm) (apart : Each (IsApart form.name) records) (other : form.name ≡ library.Core → ⊥)
    (body : List PlainDatum) (r : CompiledLibrary) (named : r.name ≡ form.name) where
  pub library-once : expand_library prelude records path form body ≡ Ok r → IsOnceOver r
  unfolding expand_library
  library-once h = by_names (form_names records form.imports) refl h
    where
      by_codes : (names : Labelled) (forms : List Tree) → form_names records form.imports ≡ Ok names → (x : Result Codes Fault)
          → (expander_of x form.name records names >>= (λ e. library_record e records (body_with path form forms))) ≡ Ok r → IsOnceOver r
      by_codes names forms n (Ok codes) k =
          once-behind form.name records names (body_with path form forms) codes r apart other (names-once records form.imports names n) k named
      by_codes names forms n (Err f) k = absurd (cc)

      by_forms : (names : Labelled) → form_names records form.imports ≡ Ok names → (x : Result (List Tree) Fault)
          → (x >>= (λ forms. expander_of prelude form.name records names >>= (λ e. library_record e records (body_with path form forms)))) ≡ Ok r → IsOnceOver r
      by_forms names n (Ok forms) k = by_codes names forms n prelude k
      by_forms names n (Err f) k = absurd (cc)

      by_names : (x : Result Labelled Fault) → form_names records form.imports ≡ x
          → (x >>= (λ names. trees_at form.name_span [] body >>= (λ forms. expander_of prelude form.name records names >>= (λ e. library_record e records (body_with path form forms))))) ≡ Ok r
          → IsOnceOver r
      by_names (Ok names) n k = by_forms names n (trees_at form.name_span [] body) k
      by_names (Err f) n k = absurd (cc)

-- the derived library imports each name of the implementation once
module _ (d : CompiledLibrary) (named : d.name ≡ library.Derived) where
  forms-once : (codes : Codes) (forms : List Tree) → record_of codes forms ≡ Ok d → IsOnceOver d
  unfolding record_of
  forms-once codes forms h = once-behind library.Derived [] derived_library.names (derived_body forms) codes d tt (λ e. absurd (cc)) derived-names-once h named

  pub derived-once : (prelude : Result Codes Fault) → derived_record prelude ≡ Ok d → IsOnceOver d
  unfolding derived_record
  derived-once prelude h = by_forms (forms_of DERIVED_SOURCE.now) h
    where
      by_codes : (forms : List Tree) (x : Result Codes Fault) → (x >>= (λ codes. record_of codes forms)) ≡ Ok d → IsOnceOver d
      by_codes forms (Ok codes) k = forms-once codes forms k
      by_codes forms (Err f) k = absurd (cc)

      by_forms : (x : Result (List Tree) Fault) → (x >>= (λ forms. prelude >>= (λ codes. record_of codes forms))) ≡ Ok d → IsOnceOver d
      by_forms (Ok forms) k = by_codes forms prelude k
      by_forms (Err f) k = absurd (cc)

-- A run.

parts-same : (x y : CompiledLibrary) (xs ys : List CompiledLibrary) → x ∷ xs ≡ y ∷ ys → (x ≡ y) × (xs ≡ ys)
parts-same x y xs ys e = (cc, cc)

module _ (prelude : Result Codes Fault) (files : Paths) (roots : List (List ℕ)) (path : List ℕ) (found : Found) (s : Loading) (records : List CompiledLibrary) (program : CompiledLibrary)
    (run : IsRun (run_inputs prelude files roots path) found s records program) (all : AllStand found s records program) (made : IsMade prelude s.done records) where
  -- the library of a record
  record IsOf (r : CompiledLibrary) : Type 0 where
    pub name : LibName
    pub user : IsUser name
    pub behind : List CompiledLibrary
    pub stands : Stands behind name r

  of-others : (i : ℕ) (r : CompiledLibrary) → slice_get all.others i ≡ Some r → IsOf r
  of-others i r h =
      let x = same_place all.others s.done i r all.as_many h in
      record { name = x.0.1.opened.form.name; user = user_at files roots path found s run.loaded i x.0.0 x.0.1 x.1; behind = all.derived ∷ records_at all.others (needed x.0.1); stands = all.each i x.0.0 x.0.1 r x.1 h }

  user-other : (n : LibName) → IsUser n → n ≡ library.Core → ⊥
  user-other n u e = subst IsUser e u

  abbrev OwnFrames : CompiledLibrary → Type 0
  OwnFrames r = Each (λ (x : FrameRow). IsOwn r x.frame.0) r.frames

  own-frames-are : Each OwnFrames records
  own-frames-are = subst (Each OwnFrames) (sym all.parts) (all.first.serves.own_frames, of-places OwnFrames all.others (λ i r h. (of-others i r h).stands.serves.own_frames))

  no-core : Each (IsApart library.Core) records
  no-core = subst (Each (IsApart library.Core)) (sym all.parts) (
    ((λ e. let bad : library.Derived ≡ library.Core = sym all.first.named ∙ e in absurd (cc)), all.first.serves.own_frames),
    of-places (IsApart library.Core) all.others (λ i r h. let x = of-others i r h in ((λ e. user-other x.name x.user (sym x.stands.named ∙ e)), x.stands.serves.own_frames)),
  )

  both-each : (n : LibName) (rs : List CompiledLibrary) → Each (λ (y : CompiledLibrary). y.name ≡ n → ⊥) rs → Each OwnFrames rs → Each (IsApart n) rs
  both-each n [] h k = tt
  both-each n (y ∷ ys) h k = ((h.0, k.0), both-each n ys h.1 k.1)

  -- the records before one are of other libraries
  before-apart : (before after : List CompiledLibrary) (r : CompiledLibrary) → records ≡ before ++ after → IsNext before after r → Each (IsApart r.name) before
  before-apart before after r e x =
      let same : records ++ program ∷ [] ≡ before ++ (r ∷ (x.rest ++ program ∷ [])) =
      ap (λ (rs : List CompiledLibrary). rs ++ program ∷ []) (e ∙ ap (λ (rs : List CompiledLibrary). before ++ rs) x.is) ∙ append_assoc before (r ∷ x.rest) (program ∷ []) in
      both-each r.name before (once-apart before r (x.rest ++ program ∷ []) (subst (λ (rs : List CompiledLibrary). Once (names_of rs)) same all.once))
      (each-first OwnFrames before after (subst (Each OwnFrames) e own-frames-are))

  there : (i : ℕ) (r : CompiledLibrary) → slice_get all.others i ≡ Some r → (before after : List CompiledLibrary) → records ≡ before ++ after → length before ≡ suc i → IsNext before after r
  there i r h before after e many = next-at before after (suc i) r many (subst (λ (rs : List CompiledLibrary). slice_get rs (suc i) ≡ Some r) (sym all.parts ∙ e) h)

  -- behind those before it that it needs
  needed-apart : (before after : List CompiledLibrary) (i : ℕ) (f : Found) (r : CompiledLibrary) → slice_get all.others i ≡ Some r → records ≡ before ++ after → length before ≡ suc i → r.name ≡ f.opened.form.name
      → Each (IsApart f.opened.form.name) (needed_records before (true ∷ f.needs))
  needed-apart before after i f r h e many named =
      each-records (IsApart f.opened.form.name) before (places_from 0 (true ∷ f.needs)) (subst (λ (n : LibName). Each (IsApart n) before) named (before-apart before after r e (there i r h before after e many)))

  both-parts : (all.derived ≡ made.derived) × (all.others ≡ made.others)
  both-parts = parts-same all.derived made.derived all.others made.others (sym all.parts ∙ made.parts)

  other-fits : (i : ℕ) (r : CompiledLibrary) → slice_get all.others i ≡ Some r → OneFits r
  other-fits i r h =
      let x = same_place all.others s.done i r all.as_many h in
      let st = all.each i x.0.0 x.0.1 r x.1 h in
      let m = made.each i x.0.0 x.0.1 r x.1 (subst (λ (rs : List CompiledLibrary). slice_get rs i ≡ Some r) both-parts.1 h) in
      let f = x.0.1 in
      one-fits (all.derived ∷ records_at all.others (needed f)) f.opened.form.name r st
      (library-once prelude (needed_records m.before (true ∷ f.needs)) f.opened.path f.opened.form (needed-apart m.before m.after i f r h (made.parts ∙ m.parts) m.many st.named)
      (user-other f.opened.form.name (user_at files roots path found s run.loaded i x.0.0 f x.1)) (library_body f.opened.«data») r st.named m.made)

  first-fits : OneFits all.derived
  first-fits =
      let first : Stands [] library.Derived made.derived = subst (λ (r : CompiledLibrary). Stands [] library.Derived r) both-parts.0 all.first in
      subst OneFits (sym both-parts.0) (one-fits [] library.Derived made.derived first (derived-once made.derived first.named prelude made.made))

  all-fit : (earlier rs : List CompiledLibrary) → records ≡ earlier ++ rs → Each OneFits rs → AllFit earlier rs
  all-fit earlier [] e h = tt
  all-fit earlier (r ∷ rs) e h = (
    record {
      name = names-apart r.name earlier (before-apart earlier (r ∷ rs) r e (record { rest = rs; is = refl }));
      own_rows = h.0.own_rows;
      rows = h.0.once.rows;
      own_labels = h.0.own_labels;
      labels = h.0.once.labels;
    },
    all-fit (earlier ++ r ∷ []) rs (e ∙ sym (append_assoc earlier (r ∷ []) rs)) h.1,
  )

  fit : AllFit [] records
  fit = all-fit [] records refl (subst (Each OneFits) (sym all.parts) (first-fits, of-places OneFits all.others other-fits))

  begins-at : (before after : List CompiledLibrary) (i : ℕ) (file : List ℕ) (f : Found) (names : Labelled) → records ≡ before ++ after → length before ≡ suc i → IsAt s.done i file f
      → form_names (needed_records before (true ∷ f.needs)) f.opened.form.imports ≡ Ok names → BeginsApart (needed_records before (true ∷ f.needs)) f.opened.form.name names
  begins-at before after i file f names e many at n =
      let x = same_place s.done all.others i (file, f) (sym all.as_many) at in
      let st = all.each i file f x.0 at x.1 in
      begins f.opened.form.name (needed_records before (true ∷ f.needs)) (needed-apart before after i f x.0 x.1 e many st.named) (user-other f.opened.form.name (user_at files roots path found s run.loaded i file f at)) names
      (each-records (IsApart library.Core) before (places_from 0 (true ∷ f.needs)) (each-first (IsApart library.Core) before after (subst (Each (IsApart library.Core)) e no-core))) (names-once (needed_records before (true ∷ f.needs)) f.opened.form.imports names n)

  program-begins : (names : Labelled) → form_names (needed_records records (true ∷ found.needs)) found.opened.form.imports ≡ Ok names → BeginsApart (needed_records records (true ∷ found.needs)) library.Program names
  program-begins names n =
      let apart : Each (IsApart library.Program) records = subst (λ (l : LibName). Each (IsApart l) records) all.last.named (both-each program.name records (once-apart records program [] all.once) own-frames-are) in
      begins library.Program (needed_records records (true ∷ found.needs)) (each-records (IsApart library.Program) records (places_from 0 (true ∷ found.needs)) apart) (λ e. absurd (cc)) names
      (each-records (IsApart library.Core) records (places_from 0 (true ∷ found.needs)) no-core) (names-once (needed_records records (true ∷ found.needs)) found.opened.form.imports names n)

pub records-fit : RecordsFit
records-fit prelude files roots path found s records program run = fit prelude files roots path found s records program run (all_records_stand prelude files roots path found s records program run) (all_made prelude s.done records run.recorded)

pub expansions-begin : ExpansionsBegin
expansions-begin prelude files roots path found s records program run =
    let all = all_records_stand prelude files roots path found s records program run in
    let made = all_made prelude s.done records run.recorded in
    record { each = begins-at prelude files roots path found s records program run all made; last = program-begins prelude files roots path found s records program run all made }
