-- In a part of a run, as far as it came, the records fit, and the next expansion begins as it should.
use Rattle.std.proofs.Common.{◌≡◌, ℕ, zero, suc, ◌+◌, ◌<◌, true, List, [], ◌∷◌, ◌++◌, length, Some, Result, Ok, Err, refl, sym, ap, subst, ◌∙◌, arith, append_assoc, append-nil}
use Rattle.std.specs.Prelude.{slice_get}
use Rattle.base_data.proofs.ElementLemmas.{each-append}
use Rattle.base_data.specs.Elements.{Each}
use Rattle.base_data.specs.Gives.{◌>>=◌}
use Rattle.base_data.specs.declared.fault.Fault.{Fault}
use Rattle.base_data.specs.declared.library.LibName.{LibName}
use Rattle.base_data.specs.declared.library.LibName.TheVariants as library
use Rattle.core_language.specs.declared.record.CompiledLibrary.{CompiledLibrary}
use Rattle.run_derived.specs.Derived.{derived_record}
use Rattle.run_derived.specs.Names as derived_library
use Rattle.eval_code.specs.Codes.{Codes}
use Rattle.load_forms.specs.Form.{library_body}
use Rattle.load_import.specs.Names.{Labelled}
use Rattle.load_import.specs.Turns.{turns}
use Rattle.run_library.specs.Imports.{form_names}
use Rattle.run_library.specs.Library.{expand_library}
use Rattle.run_library.specs.Loaded.{all_records, expand_found, expand_next}
use Rattle.run_library.specs.Records.{needed_records}
use Rattle.load_files.specs.Found.{places_from}
use Rattle.load_files.specs.Load.{Loads, load}
use Rattle.load_files.specs.declared.found.Found.{Found}
use Rattle.load_files.specs.declared.found.Loading.{Loading}
use Rattle.law_load.specs.Laws.{IsAt, NeedsAreClosed}
use Rattle.law_load.proofs.LoadLemmas.{loads_all, loads_until}
use Rattle.law_load.proofs.ReferLemmas.{IsSound}
use Rattle.law_load.proofs.RowLemmas.{at_first}
use Rattle.base_outside.specs.Contents.{Paths}
use Rattle.run_top.specs.Whole.{loading_of}
use Rattle.law_run.specs.Fitting.{Fits, AllFit, BeginsApart}
use Rattle.law_run.specs.Parts.{PartsFit, PartsBegin, ProgramsBegin, DerivedBegins}
use Rattle.law_run.specs.Run.{Stands}
use Rattle.law_run.proofs.BehindLemmas.{IsNew, library_stands, derived_stands}
use Rattle.law_run.proofs.Derived.{derived-names-once}
use Rattle.law_run.proofs.NamedFiles.{IsUser, AllUsers, users-all, users-until}
use Rattle.law_run.proofs.PartBehind.{Behind, AllMadeBehind, user-no-derived, earlier-there, one-place, all-serve, all-behind, library-new}
use Rattle.law_run.proofs.PartRows.{IsFirst, IsItsRecord, is-behind, no-text-derived, no-text-user, made-more, last-place}
use Rattle.law_run.proofs.Runs.{OneFits, one-fits, library-once, derived-once, names-once, of-places, each-records}
use Rattle.law_run.proofs.Starts.{IsApart, names-apart, begins}
use Rattle.law_local.proofs.BehindLemmas.{with_first}
use Rattle.law_local.proofs.Part.{same_place}

-- ---- lists and places

before-end : {A : Type 0} (xs : List A) (p : ℕ) (x : A) → slice_get xs p ≡ Some x → p < length xs
before-end [] p x h = absurd (cc)
before-end (a ∷ xs) zero x h = omega arith
before-end (a ∷ xs) (suc p) x h = let l = before-end xs p x h in omega (arith, l)

pub at-next : {A : Type 0} (xs ys : List A) (y : A) → slice_get (xs ++ y ∷ ys) (length xs) ≡ Some y
at-next [] ys y = refl
at-next (x ∷ xs) ys y = at-next xs ys y

fit-more : (earlier rs : List CompiledLibrary) (r : CompiledLibrary) → AllFit earlier rs → Fits (earlier ++ rs) r → AllFit earlier (rs ++ r ∷ [])
fit-more earlier [] r h f = (subst (λ (xs : List CompiledLibrary). Fits xs r) (append-nil earlier) f, tt)
fit-more earlier (x ∷ rs) r h f = (h.0, fit-more (earlier ++ x ∷ []) rs r h.1 (subst (λ (xs : List CompiledLibrary). Fits xs r) (sym (append_assoc earlier (x ∷ []) rs)) f))

-- ---- records

-- one that can be put beside those of other libraries, and is none of the implementation's names
record IsFine (r : CompiledLibrary) : Type 0 where
  fits : OneFits r
  no_core : r.name ≡ library.Core → ⊥

abbrev IsElse : LibName → CompiledLibrary → Type 0
IsElse n r = r.name ≡ n → ⊥

apart-from : (n : LibName) (rs : List CompiledLibrary) → Each (IsElse n) rs → Each IsFine rs → Each (IsApart n) rs
apart-from n [] h k = tt
apart-from n (r ∷ rs) h k = ((h.0, k.0.fits.own_rows), apart-from n rs h.1 k.1)

core-apart : (rs : List CompiledLibrary) → Each IsFine rs → Each (IsApart library.Core) rs
core-apart [] k = tt
core-apart (r ∷ rs) k = ((k.0.no_core, k.0.fits.own_rows), core-apart rs k.1)

fits-behind : (earlier : List CompiledLibrary) (r : CompiledLibrary) → Each (IsApart r.name) earlier → OneFits r → Fits earlier r
fits-behind earlier r apart o = record { name = names-apart r.name earlier apart; own_rows = o.own_rows; rows = o.once.rows; own_labels = o.own_labels; labels = o.once.labels }

user-other : (n : LibName) → IsUser n → n ≡ library.Core → ⊥
user-other n u e = subst IsUser e u

first-is : (prelude : Result Codes Fault) (d : CompiledLibrary) → derived_record prelude ≡ Ok d → IsFirst d
first-is prelude d h = let st = derived_stands d prelude h in record { stands = st; behind = is-behind [] library.Derived d tt (λ a. elim a [ ]) no-text-derived st }

first-fine : (prelude : Result Codes Fault) (d : CompiledLibrary) → derived_record prelude ≡ Ok d → IsFine d
first-fine prelude d h =
    let st = derived_stands d prelude h in
    record { fits = one-fits [] library.Derived d st (derived-once d st.named prelude h); no_core = λ e. let bad : library.Derived ≡ library.Core = sym st.named ∙ e in absurd (cc) }

module _ (s : Loading) (sound : IsSound s) (users : AllUsers s.done) (d : CompiledLibrary) (first : IsFirst d) where
  -- ---- the library that comes next

  module _ (others : List CompiledLibrary) (made : AllMadeBehind s d others) (fine : Each IsFine (d ∷ others)) (file : List ℕ) (f : Found) (at : IsAt s.done (length others) file f) where
    user : IsUser f.opened.form.name
    user = users (length others) file f at

    -- no record before it has its name
    others-else : (p : ℕ) (x : CompiledLibrary) → slice_get others p ≡ Some x → IsElse f.opened.form.name x
    others-else p x there e =
        let less = before-end others p x there in
        let row = earlier-there s.done p (length others) (file, f) less at in
        let m = made p row.0.0 row.0.1 x row.1 there in
        let same = one-place s sound users d first.stands first.behind others made p (length others) row.0.0 file row.0.1 f row.1 at (sym m.stands.named ∙ e) in
        absurd (omega (arith, less, same))

    all-else : Each (IsElse f.opened.form.name) (d ∷ others)
    all-else = ((λ e. user-no-derived f.opened.form.name user (sym e ∙ first.stands.named)), of-places (IsElse f.opened.form.name) others others-else)

    apart : Each (IsApart f.opened.form.name) (d ∷ others)
    apart = apart-from f.opened.form.name (d ∷ others) all-else fine

    needed-apart : Each (IsApart f.opened.form.name) (needed_records (d ∷ others) (true ∷ f.needs))
    needed-apart = each-records (IsApart f.opened.form.name) (d ∷ others) (places_from 0 (true ∷ f.needs)) apart

    next-begins : (names : Labelled) → form_names (needed_records (d ∷ others) (true ∷ f.needs)) f.opened.form.imports ≡ Ok names → BeginsApart (needed_records (d ∷ others) (true ∷ f.needs)) f.opened.form.name names
    next-begins names n =
        begins f.opened.form.name (needed_records (d ∷ others) (true ∷ f.needs)) needed-apart (user-other f.opened.form.name user) names
        (each-records (IsApart library.Core) (d ∷ others) (places_from 0 (true ∷ f.needs)) (core-apart (d ∷ others) fine))
        (names-once (needed_records (d ∷ others) (true ∷ f.needs)) f.opened.form.imports names n)

    closed : NeedsAreClosed s.done f
    closed = (sound.stand (length others) file f at).closed

    -- its record
    module _ (prelude : Result Codes Fault) (r : CompiledLibrary) (h : expand_found prelude (d ∷ others) f (library_body f.opened.«data») ≡ Ok r) where
      new : IsNew (Behind d others f) f.opened.form.name
      new = library-new s sound users d first.stands first.behind others made f closed (length others) file at

      stands : Stands (Behind d others f) f.opened.form.name r
      stands = library_stands (Behind d others f) (all-serve s sound users d first.stands first.behind others made f closed) f.opened.path f.opened.form new (library_body f.opened.«data») r prelude
          (subst (λ (rs : List CompiledLibrary). expand_library prelude rs f.opened.path f.opened.form (library_body f.opened.«data») ≡ Ok r) (with_first d others f.needs) h)

      its : IsItsRecord s sound users d first others f r
      its = record {
        stands = stands;
        behind = is-behind (Behind d others f) f.opened.form.name r (all-behind s sound users d first.stands first.behind others made f closed) new (no-text-user f.opened.form.name user) stands;
      }

      is-fine : IsFine r
      is-fine = record {
        fits = one-fits (Behind d others f) f.opened.form.name r stands
            (library-once prelude (needed_records (d ∷ others) (true ∷ f.needs)) f.opened.path f.opened.form needed-apart (user-other f.opened.form.name user) (library_body f.opened.«data») r stands.named h);
        no_core = λ e. user-other f.opened.form.name user (sym stands.named ∙ e);
      }

      is-fit : Fits (d ∷ others) r
      is-fit = fits-behind (d ∷ others) r (subst (λ (n : LibName). Each (IsApart n) (d ∷ others)) (sym stands.named) apart) is-fine.fits

  -- ---- one after another

  -- so many records behind that of the derived library
  pub record AreSo (count : ℕ) (records : List CompiledLibrary) : Type 0 where
    pub others : List CompiledLibrary
    pub parts : records ≡ d ∷ others
    pub many : length others ≡ count
    pub made : AllMadeBehind s d others
    fine : Each IsFine (d ∷ others)
    fit : AllFit [] (d ∷ others)

  -- these rows stand from a place on
  abbrev AreThere : ℕ → List (List ℕ × Found) → Type 0
  AreThere k rows = (p : ℕ) (row : List ℕ × Found) → slice_get rows p ≡ Some row → slice_get s.done (k + p) ≡ Some row

  module _ (prelude : Result Codes Fault) where
    walk : (rows : List (List ℕ × Found)) (others records : List CompiledLibrary) → AreThere (length others) rows → AllMadeBehind s d others → Each IsFine (d ∷ others) → AllFit [] (d ∷ others)
        → turns (expand_next prelude) (d ∷ others) rows ≡ Ok records → AreSo (length others + length rows) records
    walk [] others records there made fine fit h =
        let same : d ∷ others ≡ records = cc in
        record { others = others; parts = sym same; many = omega arith; made = made; fine = fine; fit = fit }
    walk (row ∷ rows) others records there made fine fit h =
        by (λ r t m e f k. walk rows (others ++ r ∷ []) records t m e f k) (expand_found prelude (d ∷ others) row.1 (library_body row.1.opened.«data»)) refl h
      where
        here : IsAt s.done (length others) row.0 row.1
        here = let e : length others + zero ≡ length others = omega arith in subst (λ n. slice_get s.done n ≡ Some row) e (there zero row refl)

        by : ((r : CompiledLibrary) → AreThere (length (others ++ r ∷ [])) rows → AllMadeBehind s d (others ++ r ∷ []) → Each IsFine (d ∷ (others ++ r ∷ [])) → AllFit [] (d ∷ (others ++ r ∷ []))
            → turns (expand_next prelude) (d ∷ (others ++ r ∷ [])) rows ≡ Ok records → AreSo (length (others ++ r ∷ []) + length rows) records)
            → (x : Result CompiledLibrary Fault) → expand_found prelude (d ∷ others) row.1 (library_body row.1.opened.«data») ≡ x
            → ((x >>= (λ r. Ok (d ∷ (others ++ r ∷ [])))) >>= (λ more. turns (expand_next prelude) more rows)) ≡ Ok records → AreSo (length others + suc (length rows)) records
        by rest (Ok r) e k =
            subst (λ n. AreSo n records) (sym (last-place s sound users d first others r (length rows)))
            (rest r (λ p y g. ap (slice_get s.done) (sym (last-place s sound users d first others r p)) ∙ there (suc p) y g)
            (made-more s sound users d first others made row.0 row.1 here r (its others made fine row.0 row.1 here prelude r e))
            (each-append IsFine (d ∷ others) (r ∷ []) fine (is-fine others made fine row.0 row.1 here prelude r e, tt))
            (fit-more [] (d ∷ others) r fit (is-fit others made fine row.0 row.1 here prelude r e)) k)
        by rest (Err f) e k = absurd (cc)

-- ---- a part of a run

module _ (s : Loading) (sound : IsSound s) (users : AllUsers s.done) where
  pub record PartsAre (count : ℕ) (records : List CompiledLibrary) : Type 0 where
    pub derived : CompiledLibrary
    pub first : IsFirst derived
    pub so : AreSo s sound users derived first count records

  pub parts-are : (prelude : Result Codes Fault) (rows left : List (List ℕ × Found)) (records : List CompiledLibrary) → s.done ≡ rows ++ left → all_records prelude rows ≡ Ok records → PartsAre (length rows) records
  parts-are prelude rows left records parts h = by (derived_record prelude) refl h
    where
      by : (x : Result CompiledLibrary Fault) → derived_record prelude ≡ x → (x >>= (λ d. turns (expand_next prelude) (d ∷ []) rows)) ≡ Ok records → PartsAre (length rows) records
      by (Ok d) e k =
          let fine = first-fine prelude d e in
          let none : (n : ℕ) → zero + n ≡ n = λ n. omega arith in
          record {
            derived = d;
            first = first-is prelude d e;
            so = subst (λ n. AreSo s sound users d (first-is prelude d e) n records) (none (length rows))
                (walk s sound users d (first-is prelude d e) prelude rows [] records
                (λ p row g. subst (λ n. slice_get s.done n ≡ Some row) (sym (none p)) (ap (λ xs. slice_get xs p) parts ∙ at_first rows left p row g)) (λ i file f r at there. absurd (cc))
                (fine, tt) (fits-behind [] d tt fine.fits, tt) k);
          }
      by (Err f) e k = absurd (cc)

  part-fits : (count : ℕ) (records : List CompiledLibrary) → PartsAre count records → AllFit [] records
  part-fits count records p = subst (AllFit []) (sym p.so.parts) p.so.fit

  part-begins : (rows left : List (List ℕ × Found)) (file : List ℕ) (f : Found) (records : List CompiledLibrary) (names : Labelled) → s.done ≡ rows ++ (file, f) ∷ left → PartsAre (length rows) records
      → form_names (needed_records records (true ∷ f.needs)) f.opened.form.imports ≡ Ok names → BeginsApart (needed_records records (true ∷ f.needs)) f.opened.form.name names
  part-begins rows left file f records names parts p n =
      let at : IsAt s.done (length p.so.others) file f = ap (slice_get s.done) p.so.many ∙ ap (λ xs. slice_get xs (length rows)) parts ∙ at-next rows left (file, f) in
      subst (λ (rs : List CompiledLibrary). BeginsApart (needed_records rs (true ∷ f.needs)) f.opened.form.name names) (sym p.so.parts)
      (next-begins s sound users p.derived p.first p.so.others p.so.made p.so.fine file f at names
      (subst (λ (rs : List CompiledLibrary). form_names (needed_records rs (true ∷ f.needs)) f.opened.form.imports ≡ Ok names) p.so.parts n))

  -- the program, behind the records of all libraries
  program-apart : (records : List CompiledLibrary) (p : PartsAre (length s.done) records) → Each (IsApart library.Program) (p.derived ∷ p.so.others)
  program-apart records p = apart-from library.Program (p.derived ∷ p.so.others)
      ((λ e. let bad : library.Derived ≡ library.Program = sym p.first.stands.named ∙ e in absurd (cc)), of-places (IsElse library.Program) p.so.others (λ i x there e. other i x there e)) p.so.fine
    where
      other : (i : ℕ) (x : CompiledLibrary) → slice_get p.so.others i ≡ Some x → IsElse library.Program x
      other i x there e =
          let row = same_place p.so.others s.done i x p.so.many there in
          let m = p.so.made i row.0.0 row.0.1 x row.1 there in
          subst IsUser (sym m.stands.named ∙ e) (users i row.0.0 row.0.1 row.1)

  program-begins : (found : Found) (records : List CompiledLibrary) (names : Labelled) → PartsAre (length s.done) records
      → form_names (needed_records records (true ∷ found.needs)) found.opened.form.imports ≡ Ok names → BeginsApart (needed_records records (true ∷ found.needs)) library.Program names
  program-begins found records names p n =
      subst (λ (rs : List CompiledLibrary). BeginsApart (needed_records rs (true ∷ found.needs)) library.Program names) (sym p.so.parts)
      (begins library.Program (needed_records (p.derived ∷ p.so.others) (true ∷ found.needs))
      (each-records (IsApart library.Program) (p.derived ∷ p.so.others) (places_from 0 (true ∷ found.needs)) (program-apart records p)) (λ e. absurd (cc)) names
      (each-records (IsApart library.Core) (p.derived ∷ p.so.others) (places_from 0 (true ∷ found.needs)) (core-apart (p.derived ∷ p.so.others) p.so.fine))
      (names-once (needed_records (p.derived ∷ p.so.others) (true ∷ found.needs)) found.opened.form.imports names
      (subst (λ (rs : List CompiledLibrary). form_names (needed_records rs (true ∷ found.needs)) found.opened.form.imports ≡ Ok names) p.so.parts n)))

-- ---- as far as loading came

pub record IsLoaded (s : Loading) : Type 0 where
  pub sound : IsSound s
  pub users : AllUsers s.done

pub loaded-is : (files : Paths) (roots : List (List ℕ)) (path : List ℕ) → IsLoaded (loading_of (load files roots path))
loaded-is files roots path = by (load files roots path) refl
  where
    by : (x : Loads (Found × Loading)) → load files roots path ≡ x → IsLoaded (loading_of x)
    by (Ok l) h = let all = loads_all files roots path l.0 l.1 h in record { sound = all.sound; users = users-all files roots path l.0 l.1 h }
    by (Err e) h = record { sound = loads_until files roots path e.0 e.1 h; users = users-until files roots path e.0 e.1 h }

pub parts-fit : PartsFit
parts-fit prelude files roots path s rows left records part =
    let l = subst IsLoaded part.loaded (loaded-is files roots path) in
    part-fits s l.sound l.users (length rows) records (parts-are s l.sound l.users prelude rows left records part.parts part.recorded)

pub parts-begin : PartsBegin
parts-begin prelude files roots path s rows file f left records names part n =
    let l = subst IsLoaded part.loaded (loaded-is files roots path) in
    part-begins s l.sound l.users rows left file f records names part.parts (parts-are s l.sound l.users prelude rows ((file, f) ∷ left) records part.parts part.recorded) n

pub programs-begin : ProgramsBegin
programs-begin prelude files roots path found s records names h recorded n =
    let all = loads_all files roots path found s h in
    let users = users-all files roots path found s h in
    program-begins s all.sound users found records names (parts-are s all.sound users prelude s.done [] records (sym (append-nil s.done)) recorded) n

pub derived-begins : DerivedBegins
derived-begins = begins library.Derived [] tt (λ e. absurd (cc)) derived_library.names tt derived-names-once
