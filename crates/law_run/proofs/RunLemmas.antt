-- In a run each record stands behind those that its library needs.
use Rattle.std.proofs.Common.{◌≡◌, ℕ, zero, suc, ◌+◌, ◌<◌, Bool, true, false, List, [], ◌∷◌, ◌++◌, length, Option, Some, None, Result, Ok, refl, sym, ap, subst, ◌∙◌, inl, inr, arith}
use Rattle.std.specs.Prelude.{◌⊎◌, slice_get}
use Rattle.base_data.specs.Elements.{Among, Once}
use Rattle.base_data.specs.declared.fault.Fault.{Fault}
use Rattle.base_data.specs.declared.library.LibName.{LibName}
use Rattle.base_data.specs.declared.library.LibName.TheVariants as library
use Rattle.core_language.specs.declared.record.CompiledLibrary.{CompiledLibrary}
use Rattle.law_core.specs.Follows.{names_of}
use Rattle.eval_code.specs.Codes.{Codes}
use Rattle.law_expand.specs.Serves.{Serves, AllServe}
use Rattle.law_expand.proofs.AllServe.{serves-names}
use Rattle.load_file_names.specs.File.{file_of}
use Rattle.load_forms.specs.Form.{library_body, program_body}
use Rattle.run_library.specs.Library.{expand_library}
use Rattle.run_library.specs.Records.{needed_records}
use Rattle.load_files.specs.Found.{places_from, needed}
use Rattle.load_files.specs.declared.found.Found.{Found}
use Rattle.load_files.specs.declared.found.Loading.{Loading}
use Rattle.law_load.specs.Laws.{IsAt, Needs, NeedsAreClosed}
use Rattle.law_load.proofs.LoadLemmas.{IsWhole, loads_all}
use Rattle.law_load.proofs.RowLemmas.{at_cases}
use Rattle.base_outside.specs.Contents.{Paths}
use Rattle.expand_standing.specs.Start.{or_skip, records_at}
use Rattle.law_run.specs.Run.{run_inputs, IsRun, Stands, AllStand, RecordsStand}
use Rattle.law_run.proofs.NameLemmas.{names_first, names_second, IsNamed, named_among, named_at, once_named}
use Rattle.law_run.proofs.UserLemmas.{IsUser, program_name, user_at}
use Rattle.law_run.proofs.PlaceLemmas.{marked_from, first_records, low_behind}
use Rattle.law_run.proofs.MadeLemmas.{IsMade, all_made}
use Rattle.law_run.proofs.BehindLemmas.{IsNew, library_stands, derived_stands}
use Rattle.law_local.proofs.BehindLemmas.{with_first}
use Rattle.law_local.proofs.Part.{same_place}

pub below_next : (p k : ℕ) → p < suc k → (p < k) ⊎ (p ≡ k)
below_next zero zero h = inr refl
below_next zero (suc k) h = inl (omega arith)
below_next (suc p) zero h = absurd (omega (arith, h))
below_next (suc p) (suc k) h = elim (below_next p k (omega (arith, h))) [ inl l ↦ inl (omega (arith, l)) | inr e ↦ inr (ap suc e) ]

user_no_program : (n : LibName) → IsUser n → n ≡ library.Program → ⊥
user_no_program n u e = subst IsUser e u

user_no_derived : (n : LibName) → IsUser n → n ≡ library.Derived → ⊥
user_no_derived n u e = subst IsUser e u

module _ (prelude : Result Codes Fault) (files : Paths) (roots : List (List ℕ)) (path : List ℕ) (found : Found) (s : Loading)
    (records : List CompiledLibrary) (program : CompiledLibrary) (run : IsRun (run_inputs prelude files roots path) found s records program) (m : IsMade prelude s.done records) where
  -- the record of the derived library, and those of the others
  abbrev d : CompiledLibrary
  d = m.derived

  abbrev others : List CompiledLibrary
  others = m.others

  first : Stands [] library.Derived d
  first = derived_stands d prelude m.made

  -- the records that a library stands behind
  abbrev Behind : Found → List CompiledLibrary
  Behind f = d ∷ records_at others (needed f)

  whole : IsWhole (found, s)
  whole = loads_all files roots path found s run.loaded

  -- the record at a place stands
  abbrev StandsAt : ℕ → Type 0
  StandsAt i = (file : List ℕ) (f : Found) (r : CompiledLibrary) → IsAt s.done i file f → slice_get others i ≡ Some r → Stands (Behind f) f.opened.form.name r

  -- ---- behind the records that a library needs

  module _ (f : Found) (closed : NeedsAreClosed s.done f) (earlier : (i : ℕ) → i < f.place → StandsAt i) where
    -- the library of a name among them
    record IsNeededAs (n : LibName) : Type 0 where
      pub place : ℕ
      pub file : List ℕ
      pub library_there : Found
      pub there : IsAt s.done place file library_there
      pub before : place < f.place
      pub name : library_there.opened.form.name ≡ n

    needed_as : (n : LibName) → Among (names_of (records_at others (needed f))) n → IsNeededAs n
    needed_as n a =
        let x = named_among (records_at others (needed f)) n a in
        let m = marked_from others zero f.needs x.record_of x.among in
        let i = closed m.place m.marked in
        let same : zero + m.place ≡ m.place = omega arith in
        let st = earlier m.place i.before i.file i.library x.record_of i.there (subst (λ p. slice_get others p ≡ Some x.record_of) same m.there) in
        record { place = m.place; file = i.file; library_there = i.library; there = i.there; before = i.before; name = sym st.named ∙ x.name }

    -- these records have the name of the derived library, and the names of those that are needed below a place
    abbrev Below : List CompiledLibrary → ℕ → Type 0
    Below done k = (p : ℕ) (x : CompiledLibrary) → p < k → Needs f p → slice_get others p ≡ Some x → Among (names_of done) x.name

    abbrev Has : List CompiledLibrary → ℕ → Type 0
    Has done k = Among (names_of done) d.name × Below done k

    has_past : (done : List CompiledLibrary) (k : ℕ) → Has done k → ((x : CompiledLibrary) → Needs f k → slice_get others k ≡ Some x → ⊥) → Has done (suc k)
    has_past done k has none = (has.0, (λ p x less need at. by p x (below_next p k less) need at))
      where
        by : (p : ℕ) (x : CompiledLibrary) → (p < k) ⊎ (p ≡ k) → Needs f p → slice_get others p ≡ Some x → Among (names_of done) x.name
        by p x (inl l) need at = has.1 p x l need at
        by p x (inr e) need at = absurd (none x (subst (Needs f) e need) (subst (λ i. slice_get others i ≡ Some x) e at))

    has_new : (done : List CompiledLibrary) (k : ℕ) (r : CompiledLibrary) → Has done k → slice_get others k ≡ Some r → Has (done ++ r ∷ []) (suc k)
    has_new done k r has here = (names_first done (r ∷ []) d.name has.0, (λ p x less need at. by p x (below_next p k less) need at))
      where
        by : (p : ℕ) (x : CompiledLibrary) → (p < k) ⊎ (p ≡ k) → Needs f p → slice_get others p ≡ Some x → Among (names_of (done ++ r ∷ [])) x.name
        by p x (inl l) need at = names_first done (r ∷ []) x.name (has.1 p x l need at)
        by p x (inr e) need at =
            let there : slice_get others k ≡ Some x = subst (λ i. slice_get others i ≡ Some x) e at in
            let same : x ≡ r = cc in
            names_second done (r ∷ []) x.name (inl (ap (λ (y : CompiledLibrary). y.name) same))

    -- what a needed library needs is needed, and comes before it
    serves_here : (done : List CompiledLibrary) (k : ℕ) (r : CompiledLibrary) → Has done k → Needs f k → slice_get others k ≡ Some r → Serves done r
    serves_here done k r has need at =
        let n = closed k need in
        let st = earlier k n.before n.file n.library r n.there at in
        serves-names (Behind n.library) done r (λ name a. by name a) st.serves
      where
        within : (m : LibName) → IsNamed (records_at others (needed (closed k need).library)) m → Among (names_of done) m
        within m x =
            let n = closed k need in
            let y = marked_from others zero n.library.needs x.record_of x.among in
            let same : zero + y.place ≡ y.place = omega arith in
            let before = ((whole.sound.stand k n.file n.library n.there).closed y.place y.marked).before in
            let place = whole.sound.once.in_order k n.file n.library n.there in
            let less : y.place < k = omega (arith, before, place) in
            subst (Among (names_of done)) x.name (has.1 y.place x.record_of less (n.also y.place y.marked) (subst (λ p. slice_get others p ≡ Some x.record_of) same y.there))

        by : (name : LibName) → Among (names_of (Behind (closed k need).library)) name → Among (names_of done) name
        by name (inl e) = subst (Among (names_of done)) (sym e) has.0
        by name (inr a) = within name (named_among (records_at others (needed (closed k need).library)) name a)

    -- the marks from a place on
    abbrev AreMarks : ℕ → List Bool → Type 0
    AreMarks k ms = (p : ℕ) → slice_get ms p ≡ slice_get f.needs (k + p)

    mark_here : (k : ℕ) (m : Bool) (ms : List Bool) → AreMarks k (m ∷ ms) → slice_get f.needs k ≡ Some m
    mark_here k m ms same = let e : k + zero ≡ k = omega arith in ap (slice_get f.needs) (sym e) ∙ sym (same zero)

    marks_on : (k : ℕ) (m : Bool) (ms : List Bool) → AreMarks k (m ∷ ms) → AreMarks (suc k) ms
    marks_on k m ms same p = let e : k + suc p ≡ suc k + p = omega arith in same (suc p) ∙ ap (slice_get f.needs) e

    serve_from : (k : ℕ) (ms : List Bool) (done : List CompiledLibrary) → AreMarks k ms → Has done k → AllServe done (records_at others (places_from k ms))
    unfolding places_from
    serve_from k [] done same has = tt
    serve_from k (false ∷ ms) done same has =
        let not_needed = mark_here k false ms same in
        serve_from (suc k) ms done (marks_on k false ms same) (has_past done k has (λ x need at. cc))
    serve_from k (true ∷ ms) done same has = by (slice_get others k) refl (λ more h. serve_from (suc k) ms more (marks_on k true ms same) h)
      where
        by : (o : Option CompiledLibrary) → slice_get others k ≡ o → ((more : List CompiledLibrary) → Has more (suc k) → AllServe more (records_at others (places_from (suc k) ms)))
            → AllServe done (or_skip o (records_at others (places_from (suc k) ms)))
        by None e rest = rest done (has_past done k has (λ x need at. cc))
        by (Some r) e rest = (serves_here done k r has (mark_here k true ms same) e, rest (done ++ r ∷ []) (has_new done k r has e))

    all_serve : AllServe [] (Behind f)
    all_serve = (first.serves, serve_from zero f.needs (d ∷ []) (λ p. let e : p ≡ zero + p = omega arith in ap (slice_get f.needs) e) (inl refl, (λ p x less need at. absurd (omega (arith, less)))))

    -- a name that is neither that of the derived library nor that of a needed one is new
    new_behind : (n : LibName) → (n ≡ library.Derived → ⊥) → (Among (names_of (records_at others (needed f))) n → ⊥) → IsNew (Behind f) n
    new_behind n no_derived new (inl e) = no_derived (e ∙ first.named)
    new_behind n no_derived new (inr a) = new a

  -- ---- the record of a library

  module _ (i : ℕ) (earlier : (j : ℕ) → j < i → StandsAt j) (file : List ℕ) (f : Found) (at : IsAt s.done i file f) where
    closed : NeedsAreClosed s.done f
    closed = (whole.sound.stand i file f at).closed

    place : f.place ≡ i
    place = whole.sound.once.in_order i file f at

    before : (j : ℕ) → j < f.place → StandsAt j
    before j less = earlier j (omega (arith, less, place))

    -- another library has another name, since it has another file
    is_other : Among (names_of (records_at others (needed f))) f.opened.form.name → ⊥
    is_other a =
        let x = needed_as f closed before f.opened.form.name a in
        let files_same : x.file ≡ file = whole.sound.once.named x.place x.file x.library_there x.there ∙ ap file_of x.name ∙ sym (whole.sound.once.named i file f at) in
        let places_same : x.place ≡ i = whole.sound.once.once x.place i file x.library_there f (subst (λ n. IsAt s.done x.place n x.library_there) files_same x.there) at in
        let less = x.before in
        absurd (omega (arith, less, places_same, place))

    is_new : IsNew (Behind f) f.opened.form.name
    is_new = new_behind f closed before f.opened.form.name (user_no_derived f.opened.form.name (user_at files roots path found s run.loaded i file f at)) is_other

    stands_here : (r : CompiledLibrary) → slice_get others i ≡ Some r → Stands (Behind f) f.opened.form.name r
    stands_here r there =
        let x = m.each i file f r at there in
        let many = x.many in
        let low : (p : ℕ) → slice_get (true ∷ f.needs) p ≡ Some true → zero + p < length x.before =
        low_behind (length x.before) f.needs (λ p h. let l = (closed p h).before in omega (arith, l, many, place)) (omega (arith, many)) in
        let same : needed_records x.before (true ∷ f.needs) ≡ Behind f =
        sym (first_records x.before x.after zero (true ∷ f.needs) low) ∙ ap (λ (rs : List CompiledLibrary). needed_records rs (true ∷ f.needs)) (sym x.parts) ∙ with_first d others f.needs in
        library_stands (Behind f) (all_serve f closed before) f.opened.path f.opened.form is_new (library_body f.opened.«data») r prelude
        (subst (λ (rs : List CompiledLibrary). expand_library prelude rs f.opened.path f.opened.form (library_body f.opened.«data») ≡ Ok r) same x.made)

  stands_below : (n i : ℕ) → i < n → StandsAt i
  stands_below zero i less = absurd (omega (arith, less))
  stands_below (suc n) i less = λ file f r at there. stands_here i (λ j l. stands_below n j (omega (arith, l, less))) file f at r there

  stands_at : (i : ℕ) → StandsAt i
  stands_at i = stands_below (suc i) i (omega arith)

  -- ---- the record of the program

  program_is : found.opened.form.name ≡ library.Program
  program_is = program_name files roots path found s run.loaded

  program_other : Among (names_of (records_at others (needed found))) found.opened.form.name → ⊥
  program_other a =
      let x = needed_as found whole.stands.closed (λ j less. stands_at j) found.opened.form.name a in
      user_no_program x.library_there.opened.form.name (user_at files roots path found s run.loaded x.place x.file x.library_there x.there) (x.name ∙ program_is)

  program_new : IsNew (Behind found) found.opened.form.name
  program_new = new_behind found whole.stands.closed (λ j less. stands_at j) found.opened.form.name (λ e. let bad : library.Program ≡ library.Derived = sym program_is ∙ e in absurd (cc)) program_other

  program_stands : Stands (Behind found) library.Program program
  program_stands =
      let same : needed_records records (true ∷ found.needs) ≡ Behind found = ap (λ (rs : List CompiledLibrary). needed_records rs (true ∷ found.needs)) m.parts ∙ with_first d others found.needs in
      subst (λ (n : LibName). Stands (Behind found) n program) program_is
      (library_stands (Behind found) (all_serve found whole.stands.closed (λ j less. stands_at j)) found.opened.path found.opened.form program_new (program_body found.opened.«data») program prelude
      (subst (λ (rs : List CompiledLibrary). expand_library prelude rs found.opened.path found.opened.form (program_body found.opened.«data») ≡ Ok program) same run.expanded))

  -- ---- each name once

  -- the library of a record
  record IsRecordOf (i : ℕ) (r : CompiledLibrary) : Type 0 where
    pub file : List ℕ
    pub library_there : Found
    pub there : IsAt s.done i file library_there
    pub name : r.name ≡ library_there.opened.form.name

  library_of : (i : ℕ) (r : CompiledLibrary) → slice_get others i ≡ Some r → IsRecordOf i r
  library_of i r h =
      let x = same_place others s.done i r m.as_many h in
      record { file = x.0.0; library_there = x.0.1; there = x.1; name = (stands_at i x.0.0 x.0.1 r x.1 h).named }

  records_apart : (i j : ℕ) (a b : CompiledLibrary) → slice_get others i ≡ Some a → slice_get others j ≡ Some b → a.name ≡ b.name → i ≡ j
  records_apart i j a b h k e =
      let x = library_of i a h in
      let y = library_of j b k in
      let files_same : x.file ≡ y.file =
      whole.sound.once.named i x.file x.library_there x.there ∙ ap file_of (sym x.name ∙ e ∙ y.name) ∙ sym (whole.sound.once.named j y.file y.library_there y.there) in
      whole.sound.once.once i j y.file x.library_there y.library_there (subst (λ n. IsAt s.done i n x.library_there) files_same x.there) y.there

  -- no library has the name of the program
  program_apart : (i : ℕ) (a : CompiledLibrary) → slice_get others i ≡ Some a → a.name ≡ program.name → ⊥
  program_apart i a h e =
      let x = library_of i a h in
      user_no_program x.library_there.opened.form.name (user_at files roots path found s run.loaded i x.file x.library_there x.there) (sym x.name ∙ e ∙ program_stands.named)

  others_once : Once (names_of (others ++ program ∷ []))
  others_once = once_named (others ++ program ∷ []) apart
    where
      apart : (i j : ℕ) (a b : CompiledLibrary) → slice_get (others ++ program ∷ []) i ≡ Some a → slice_get (others ++ program ∷ []) j ≡ Some b → a.name ≡ b.name → i ≡ j
      apart i j a b h k e = elim (at_cases others program i a h) [
        | inl x ↦ elim (at_cases others program j b k) [
          | inl y ↦ records_apart i j a b x y e
          | inr y ↦ absurd (program_apart i a x (e ∙ ap (λ (r : CompiledLibrary). r.name) (sym y.1)))
        ]
        | inr x ↦ elim (at_cases others program j b k) [
          | inl y ↦ absurd (program_apart j b y (sym e ∙ ap (λ (r : CompiledLibrary). r.name) (sym x.1)))
          | inr y ↦ x.0 ∙ sym y.0
        ]
      ]

  -- none has the name of the derived library
  no_other_derived : (i : ℕ) (a : CompiledLibrary) → slice_get (others ++ program ∷ []) i ≡ Some a → a.name ≡ library.Derived → ⊥
  no_other_derived i a h e = by (at_cases others program i a h)
    where
      by : (slice_get others i ≡ Some a) ⊎ ((i ≡ length others) × (program ≡ a)) → ⊥
      by (inl x) = let y = library_of i a x in user_no_derived y.library_there.opened.form.name (user_at files roots path found s run.loaded i y.file y.library_there y.there) (sym y.name ∙ e)
      by (inr x) = let bad : library.Program ≡ library.Derived = sym program_stands.named ∙ ap (λ (r : CompiledLibrary). r.name) x.1 ∙ e in absurd (cc)

  names_once : Once (names_of (records ++ program ∷ []))
  names_once = subst (λ (rs : List CompiledLibrary). Once (names_of (rs ++ program ∷ []))) (sym m.parts)
      ((λ a. let x = named_at (others ++ program ∷ []) d.name a in no_other_derived x.place x.record_of x.there (x.name ∙ first.named)), others_once)

  all_stand : AllStand found s records program
  all_stand = record { derived = d; others = others; parts = m.parts; first = first; as_many = m.as_many; each = stands_at; last = program_stands; once = names_once }

pub all_records_stand : RecordsStand
all_records_stand prelude files roots path found s records program run = all_stand prelude files roots path found s records program run (all_made prelude s.done records run.recorded)
