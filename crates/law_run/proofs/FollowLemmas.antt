-- In a run each record follows those that its library needs, and all that stand before it.
use Rattle.std.proofs.Common.{◌≡◌, ℕ, zero, suc, ◌+◌, ◌<◌, Bool, true, false, List, [], ◌∷◌, ◌++◌, length, Option, Some, None, Result, Ok, Err, refl, sym, ap, subst, ◌∙◌, inl, inr, arith, append_assoc, append-nil}
use Rattle.std.specs.Prelude.{◌⊎◌, map, slice_get}
use Rattle.base_data.proofs.ElementLemmas.{among-first, among-second, among-parts}
use Rattle.base_data.specs.Datum.{PlainDatum}
use Rattle.base_data.specs.Elements.{Among, Once}
use Rattle.base_data.specs.Gives.{◌>>=◌}
use Rattle.base_data.specs.declared.fault.Fault.{Fault}
use Rattle.base_data.specs.declared.library.LibName.{LibName}
use Rattle.base_data.specs.declared.library.LibName.TheVariants as library
use Rattle.core_language.specs.declared.record.CompiledLibrary.{CompiledLibrary}
use Rattle.law_core.specs.Following.{AllFollow}
use Rattle.law_core.specs.Follows.{names_of, Follows}
use Rattle.eval_code.specs.Codes.{Codes}
use Rattle.expand_forms.specs.Expanding.{ready, library_record}
use Rattle.law_expand.specs.Behind.{IsFollower}
use Rattle.law_expand.proofs.Behind.{records-follow}
use Rattle.load_forms.specs.Form.{library_body, program_body}
use Rattle.load_forms.specs.declared.form.LibraryForm.{LibraryForm}
use Rattle.load_import.specs.Names.{Labelled}
use Rattle.load_import.specs.declared.set.NameAt.{NameAt}
use Rattle.run_library.specs.Imports.{form_names}
use Rattle.run_library.specs.Library.{export_tree, trees_at, expander_of, expand_library, body_with}
use Rattle.run_library.specs.Records.{needed_records}
use Rattle.load_files.specs.Found.{places_from, needed}
use Rattle.load_files.specs.declared.found.Found.{Found}
use Rattle.load_files.specs.declared.found.Loading.{Loading}
use Rattle.law_load.specs.Laws.{IsAt, Needs, NeedsAreClosed}
use Rattle.law_load.proofs.LoadLemmas.{IsWhole, loads_all}
use Rattle.law_load.proofs.RowLemmas.{at_first, at_end}
use Rattle.law_run.proofs.Runs.{names-once}
use Rattle.base_outside.specs.Contents.{Paths}
use Rattle.law_run.specs.Run.{run_inputs, IsRun, AllStand}
use Rattle.law_run.proofs.MadeLemmas.{IsMade, all_made}
use Rattle.law_run.proofs.NameLemmas.{named_among, name_among}
use Rattle.law_run.proofs.PlaceLemmas.{marked_from, first_records, low_behind}
use Rattle.law_run.proofs.RunLemmas.{below_next, all_records_stand}
use Rattle.law_run.proofs.UserLemmas.{IsUser, program_name, user_at}
use Rattle.expand_standing.specs.Start.{or_skip, records_at}
use Rattle.stx_tree.specs.Tree.{Tree}
use Rattle.law_run.specs.Following.{DoFollow, RecordsFollowInRuns}
use Rattle.law_run.proofs.DerivedLemmas.{once_by_name, ExportsTheDerived, IsDerived, derived_follows}
use Rattle.law_run.proofs.ExportLemmas.{names_in, ExportsOnce, program_exports_once, library_exports_once}
use Rattle.law_run.proofs.ImportsFollow.{imports_known}
use Rattle.law_run.proofs.WiderLemmas.{AreAmong, follows_wider}
use Rattle.law_local.proofs.BehindLemmas.{with_first}
use Rattle.law_local.proofs.Part.{same_place}
use Rattle.law_text.proofs.Names.{got-among}

-- ---- places

first_among : (xs ys : List CompiledLibrary) (i : ℕ) (r : CompiledLibrary) → i < length xs → slice_get (xs ++ ys) i ≡ Some r → Among xs r
first_among [] ys i r less h = absurd (omega (arith, less))
first_among (x ∷ xs) ys zero r less h = let same : r ≡ x = cc in inl same
first_among (x ∷ xs) ys (suc i) r less h = inr (first_among xs ys i r (omega (arith, less)) h)

get_behind : (xs : List CompiledLibrary) (r : CompiledLibrary) (ys : List CompiledLibrary) → slice_get (xs ++ r ∷ ys) (length xs) ≡ Some r
get_behind [] r ys = refl
get_behind (x ∷ xs) r ys = get_behind xs r ys

-- where names stand once, records of one name stand at one place
same_name_place : (rs : List CompiledLibrary) → Once (names_of rs) → (i j : ℕ) (a b : CompiledLibrary) → slice_get rs i ≡ Some a → slice_get rs j ≡ Some b → a.name ≡ b.name → i ≡ j
same_name_place [] once i j a b h k e = absurd (cc)
same_name_place (r ∷ rs) once zero zero a b h k e = refl
same_name_place (r ∷ rs) once zero (suc j) a b h k e =
    let same : r ≡ a = cc in
    absurd (once.0 (subst (Among (names_of rs)) (sym (ap (λ (x : CompiledLibrary). x.name) same ∙ e)) (name_among rs b (got-among rs j b k))))
same_name_place (r ∷ rs) once (suc i) zero a b h k e =
    let same : r ≡ b = cc in
    absurd (once.0 (subst (Among (names_of rs)) (e ∙ sym (ap (λ (x : CompiledLibrary). x.name) same)) (name_among rs a (got-among rs i a h))))
same_name_place (r ∷ rs) once (suc i) (suc j) a b h k e = ap suc (same_name_place rs once.1 i j a b h k e)

-- ---- one expansion

-- what expansion reads before it begins
record IsExpanded (records : List CompiledLibrary) (path : List ℕ) (form : LibraryForm) (r : CompiledLibrary) : Type 0 where
  pub names : Labelled
  pub forms : List Tree
  pub codes : Codes
  pub named : form_names records form.imports ≡ Ok names
  pub made : library_record (ready form.name records names codes) records (body_with path form forms) ≡ Ok r

is_expanded : (prelude : Result Codes Fault) (records : List CompiledLibrary) (path : List ℕ) (form : LibraryForm) (body : List PlainDatum) (r : CompiledLibrary)
    → expand_library prelude records path form body ≡ Ok r → IsExpanded records path form r
unfolding expand_library
is_expanded prelude records path form body r h = by_names (form_names records form.imports) refl h
  where
    by_codes : (names : Labelled) (forms : List Tree) → form_names records form.imports ≡ Ok names → (x : Result Codes Fault)
        → (expander_of x form.name records names >>= (λ e. library_record e records (body_with path form forms))) ≡ Ok r → IsExpanded records path form r
    by_codes names forms n (Ok codes) h = record { names = names; forms = forms; codes = codes; named = n; made = h }
    by_codes names forms n (Err f) h = absurd (cc)

    by_forms : (names : Labelled) → form_names records form.imports ≡ Ok names → (x : Result (List Tree) Fault)
        → (x >>= (λ forms. expander_of prelude form.name records names >>= (λ e. library_record e records (body_with path form forms)))) ≡ Ok r
        → IsExpanded records path form r
    by_forms names n (Ok forms) h = by_codes names forms n prelude h
    by_forms names n (Err f) h = absurd (cc)

    by_names : (x : Result Labelled Fault) → form_names records form.imports ≡ x
        → (x >>= (λ names. trees_at form.name_span [] body >>= (λ forms. expander_of prelude form.name records names >>= (λ e. library_record e records (body_with path form forms))))) ≡ Ok r
        → IsExpanded records path form r
    by_names (Ok names) n h = by_forms names n (trees_at form.name_span [] body) h
    by_names (Err f) n h = absurd (cc)

-- an exported identifier keeps its external name
export_trees_named : (es : List (List ℕ × NameAt)) → map (λ (e : List ℕ × Tree). e.0) (map export_tree es) ≡ names_in es
export_trees_named [] = refl
export_trees_named (e ∷ es) = ap (λ (ns : List (List ℕ)). e.0 ∷ ns) (export_trees_named es)

module _ (d : CompiledLibrary) (rest : List CompiledLibrary) (follow : AllFollow [] (d ∷ rest)) (is_derived : d.name ≡ library.Derived) (derives : ExportsTheDerived d) where
  -- a form that was read, whose name is new, behind records that follow one another
  expansion_follows : (prelude : Result Codes Fault) (path : List ℕ) (form : LibraryForm) (body : List PlainDatum) (r : CompiledLibrary) → (Among (names_of (d ∷ rest)) form.name → ⊥)
      → (form.name ≡ library.Core → ⊥) → (form.name ≡ library.Prelude → ⊥) → ExportsOnce form → expand_library prelude (d ∷ rest) path form body ≡ Ok r → Follows r (d ∷ rest)
  expansion_follows prelude path form body r new no_core no_prelude once h =
      let x = is_expanded prelude (d ∷ rest) path form body r h in
      let follower : IsFollower form.name (d ∷ rest) x.names (map export_tree form.exports) =
      record {
        earlier = follow;
        new = new;
        no_core = no_core;
        no_prelude = no_prelude;
        known = imports_known d rest follow is_derived derives form.imports x.names x.named;
        imported_once = once_by_name x.names (names-once (d ∷ rest) form.imports x.names x.named);
        exported_once = subst Once (sym (export_trees_named form.exports)) once;
      } in
      records-follow form.name (d ∷ rest) x.names (body_with path form x.forms) x.codes r follower x.made

-- ---- a run

user_no_core : (n : LibName) → IsUser n → n ≡ library.Core → ⊥
user_no_core n u e = subst IsUser e u

user_no_prelude : (n : LibName) → IsUser n → n ≡ library.Prelude → ⊥
user_no_prelude n u e = subst IsUser e u

module _ (prelude : Result Codes Fault) (files : Paths) (roots : List (List ℕ)) (path : List ℕ) (found : Found) (s : Loading)
    (records : List CompiledLibrary) (program : CompiledLibrary) (run : IsRun (run_inputs prelude files roots path) found s records program) (m : IsMade prelude s.done records) (stand : AllStand found s records program) where
  -- the record of the derived library, and those of the others
  abbrev d : CompiledLibrary
  d = m.derived

  abbrev others : List CompiledLibrary
  others = m.others

  -- the records that a library stands behind
  abbrev Behind : Found → List CompiledLibrary
  Behind f = d ∷ records_at others (needed f)

  whole : IsWhole (found, s)
  whole = loads_all files roots path found s run.loaded

  derived_is : IsDerived d
  derived_is = derived_follows d prelude m.made

  -- both laws speak of the same records
  same_parts : stand.derived ∷ stand.others ≡ d ∷ others
  same_parts = sym stand.parts ∙ m.parts

  same_others : stand.others ≡ others
  same_others = let e = same_parts in cc

  derived_name : d.name ≡ library.Derived
  derived_name = let e = same_parts in let same : stand.derived ≡ d = cc in sym (ap (λ (r : CompiledLibrary). r.name) same) ∙ stand.first.named

  library_name : (i : ℕ) (file : List ℕ) (f : Found) (r : CompiledLibrary) → IsAt s.done i file f → slice_get others i ≡ Some r → r.name ≡ f.opened.form.name
  library_name i file f r at there = (stand.each i file f r at (subst (λ (rs : List CompiledLibrary). slice_get rs i ≡ Some r) (sym same_others) there)).named

  -- ---- no two have one name

  abbrev all : List CompiledLibrary
  all = d ∷ (others ++ program ∷ [])

  names_apart : Once (names_of all)
  names_apart = subst (λ (rs : List CompiledLibrary). Once (names_of (rs ++ program ∷ []))) m.parts stand.once

  place_in_all : (i : ℕ) (r : CompiledLibrary) → slice_get others i ≡ Some r → slice_get all (suc i) ≡ Some r
  place_in_all i r h = at_first others (program ∷ []) i r h

  -- the records behind which one stands come before it
  record IsBefore (k : ℕ) (r : CompiledLibrary) : Type 0 where
    pub place : ℕ
    pub there : slice_get all place ≡ Some r
    pub before : place < k

  new_behind : (rs : List CompiledLibrary) (k : ℕ) (r : CompiledLibrary) → ((x : CompiledLibrary) → Among rs x → IsBefore k x) → slice_get all k ≡ Some r → Among (names_of rs) r.name → ⊥
  new_behind rs k r before at a =
      let x = named_among rs r.name a in
      let b = before x.record_of x.among in
      let same = same_name_place all names_apart b.place k x.record_of r b.there at x.name in
      let less = b.before in
      absurd (omega (arith, less, same))

  -- those that a library needs come before it
  needed_before : (f : Found) → NeedsAreClosed s.done f → (x : CompiledLibrary) → Among (Behind f) x → IsBefore (suc f.place) x
  needed_before f closed x (inl e) = record { place = zero; there = ap (λ (r : CompiledLibrary). Some r) (sym e); before = omega arith }
  needed_before f closed x (inr a) =
      let y = marked_from others zero f.needs x a in
      let same : zero + y.place ≡ y.place = omega arith in
      let less = (closed y.place y.marked).before in
      record { place = suc y.place; there = place_in_all y.place x (subst (λ p. slice_get others p ≡ Some x) same y.there); before = omega (arith, less) }

  -- ---- behind the records that a library needs

  -- the record at a place follows those that its library needs
  abbrev FollowsAt : ℕ → Type 0
  FollowsAt i = (file : List ℕ) (f : Found) (r : CompiledLibrary) → IsAt s.done i file f → slice_get others i ≡ Some r → Follows r (Behind f)

  module _ (f : Found) (closed : NeedsAreClosed s.done f) (earlier : (i : ℕ) → i < f.place → FollowsAt i) where
    -- the record of the derived library is there, and those that are needed below a place; and all that are there come before it
    record Has (done : List CompiledLibrary) (k : ℕ) : Type 0 where
      pub derived : Among done d
      pub below : (p : ℕ) (x : CompiledLibrary) → p < k → Needs f p → slice_get others p ≡ Some x → Among done x
      pub before : (x : CompiledLibrary) → Among done x → IsBefore (suc k) x

    before_next : (k : ℕ) (x : CompiledLibrary) → IsBefore k x → IsBefore (suc k) x
    before_next k x b = let less = b.before in record { place = b.place; there = b.there; before = omega (arith, less) }

    has_first : Has (d ∷ []) zero
    has_first = record { derived = inl refl; below = λ p x less need at. absurd (omega (arith, less)); before = first }
      where
        first : (x : CompiledLibrary) → Among (d ∷ []) x → IsBefore (suc zero) x
        first x (inl e) = record { place = zero; there = ap (λ (r : CompiledLibrary). Some r) (sym e); before = omega arith }
        first x (inr a) = elim a [ ]

    has_past : (done : List CompiledLibrary) (k : ℕ) → Has done k → ((x : CompiledLibrary) → Needs f k → slice_get others k ≡ Some x → ⊥) → Has done (suc k)
    has_past done k has none = record { derived = has.derived; below = λ p x less need at. by p x (below_next p k less) need at; before = λ x a. before_next (suc k) x (has.before x a) }
      where
        by : (p : ℕ) (x : CompiledLibrary) → (p < k) ⊎ (p ≡ k) → Needs f p → slice_get others p ≡ Some x → Among done x
        by p x (inl less) need at = has.below p x less need at
        by p x (inr e) need at = absurd (none x (subst (Needs f) e need) (subst (λ i. slice_get others i ≡ Some x) e at))

    has_new : (done : List CompiledLibrary) (k : ℕ) (r : CompiledLibrary) → Has done k → slice_get others k ≡ Some r → Has (done ++ r ∷ []) (suc k)
    has_new done k r has here = record {
      derived = among-first done (r ∷ []) d has.derived;
      below = λ p x less need at. by p x (below_next p k less) need at;
      before = λ x a. last x (among-parts done (r ∷ []) x a);
    }
      where
        by : (p : ℕ) (x : CompiledLibrary) → (p < k) ⊎ (p ≡ k) → Needs f p → slice_get others p ≡ Some x → Among (done ++ r ∷ []) x
        by p x (inl less) need at = among-first done (r ∷ []) x (has.below p x less need at)
        by p x (inr e) need at =
            let there : slice_get others k ≡ Some x = subst (λ i. slice_get others i ≡ Some x) e at in
            let same : x ≡ r = cc in
            among-second done (r ∷ []) x (inl same)

        last : (x : CompiledLibrary) → Among done x ⊎ Among (r ∷ []) x → IsBefore (suc (suc k)) x
        last x (inl b) = before_next (suc k) x (has.before x b)
        last x (inr (inl e)) = record { place = suc k; there = subst (λ (y : CompiledLibrary). slice_get all (suc k) ≡ Some y) (sym e) (place_in_all k r here); before = omega arith }
        last x (inr (inr b)) = elim b [ ]

    -- what a needed library needs is needed, and comes before it
    follows_here : (done : List CompiledLibrary) (k : ℕ) (r : CompiledLibrary) → Has done k → Needs f k → slice_get others k ≡ Some r → Follows r done
    follows_here done k r has need at =
        let n = closed k need in
        follows_wider r (Behind n.library) done among (new_behind done (suc k) r has.before (place_in_all k r at)) (earlier k n.before n.file n.library r n.there at)
      where
        among : AreAmong (Behind (closed k need).library) done
        among q (inl e) = subst (Among done) (sym e) has.derived
        among q (inr a) =
            let n = closed k need in
            let y = marked_from others zero n.library.needs q a in
            let same : zero + y.place ≡ y.place = omega arith in
            let before = ((whole.sound.stand k n.file n.library n.there).closed y.place y.marked).before in
            let place = whole.sound.once.in_order k n.file n.library n.there in
            let less : y.place < k = omega (arith, before, place) in
            has.below y.place q less (n.also y.place y.marked) (subst (λ p. slice_get others p ≡ Some q) same y.there)

    -- the marks from a place on
    abbrev AreMarks : ℕ → List Bool → Type 0
    AreMarks k ms = (p : ℕ) → slice_get ms p ≡ slice_get f.needs (k + p)

    mark_here : (k : ℕ) (m : Bool) (ms : List Bool) → AreMarks k (m ∷ ms) → slice_get f.needs k ≡ Some m
    mark_here k m ms same = let e : k + zero ≡ k = omega arith in ap (slice_get f.needs) (sym e) ∙ sym (same zero)

    marks_on : (k : ℕ) (m : Bool) (ms : List Bool) → AreMarks k (m ∷ ms) → AreMarks (suc k) ms
    marks_on k m ms same p = let e : k + suc p ≡ suc k + p = omega arith in same (suc p) ∙ ap (slice_get f.needs) e

    follow_from : (k : ℕ) (ms : List Bool) (done : List CompiledLibrary) → AreMarks k ms → Has done k → AllFollow done (records_at others (places_from k ms))
    unfolding places_from
    follow_from k [] done same has = tt
    follow_from k (false ∷ ms) done same has =
        let not_needed = mark_here k false ms same in
        follow_from (suc k) ms done (marks_on k false ms same) (has_past done k has (λ x need at. cc))
    follow_from k (true ∷ ms) done same has = by (slice_get others k) refl (λ more h. follow_from (suc k) ms more (marks_on k true ms same) h)
      where
        by : (o : Option CompiledLibrary) → slice_get others k ≡ o → ((more : List CompiledLibrary) → Has more (suc k) → AllFollow more (records_at others (places_from (suc k) ms)))
            → AllFollow done (or_skip o (records_at others (places_from (suc k) ms)))
        by None e rest = rest done (has_past done k has (λ x need at. cc))
        by (Some r) e rest = (follows_here done k r has (mark_here k true ms same) e, rest (done ++ r ∷ []) (has_new done k r has e))

    all_behind : AllFollow [] (Behind f)
    all_behind = (derived_is.follows, follow_from zero f.needs (d ∷ []) (λ p. let e : p ≡ zero + p = omega arith in ap (slice_get f.needs) e) has_first)

  -- ---- the record of a library

  module _ (i : ℕ) (earlier : (j : ℕ) → j < i → FollowsAt j) (file : List ℕ) (f : Found) (at : IsAt s.done i file f) where
    closed : NeedsAreClosed s.done f
    closed = (whole.sound.stand i file f at).closed

    place : f.place ≡ i
    place = whole.sound.once.in_order i file f at

    library_follows : (r : CompiledLibrary) → slice_get others i ≡ Some r → Follows r (Behind f)
    library_follows r there =
        let x = m.each i file f r at there in
        let many = x.many in
        let low : (p : ℕ) → slice_get (true ∷ f.needs) p ≡ Some true → zero + p < length x.before =
        low_behind (length x.before) f.needs (λ p h. let less = (closed p h).before in omega (arith, less, many, place)) (omega (arith, many)) in
        let same : needed_records x.before (true ∷ f.needs) ≡ Behind f =
        sym (first_records x.before x.after zero (true ∷ f.needs) low) ∙ ap (λ (rs : List CompiledLibrary). needed_records rs (true ∷ f.needs)) (sym x.parts) ∙ with_first d others f.needs in
        let name = library_name i file f r at there in
        let new : Among (names_of (Behind f)) r.name → ⊥ =
        new_behind (Behind f) (suc f.place) r (needed_before f closed) (subst (λ k. slice_get all (suc k) ≡ Some r) (sym place) (place_in_all i r there)) in
        let user = user_at files roots path found s run.loaded i file f at in
        expansion_follows d (records_at others (needed f)) (all_behind f closed (λ j less. earlier j (omega (arith, less, place)))) derived_name derived_is.exports prelude f.opened.path f.opened.form
        (library_body f.opened.«data») r (λ a. new (subst (Among (names_of (Behind f))) (sym name) a)) (user_no_core f.opened.form.name user) (user_no_prelude f.opened.form.name user)
        (library_exports_once files roots path found s run.loaded i file f at)
        (subst (λ (rs : List CompiledLibrary). expand_library prelude rs f.opened.path f.opened.form (library_body f.opened.«data») ≡ Ok r) same x.made)

  follows_below : (n i : ℕ) → i < n → FollowsAt i
  follows_below zero i less = absurd (omega (arith, less))
  follows_below (suc n) i less = λ file f r at there. library_follows i (λ j l. follows_below n j (omega (arith, l, less))) file f at r there

  follows_at : (i : ℕ) → FollowsAt i
  follows_at i = follows_below (suc i) i (omega arith)

  -- ---- the record of the program

  program_is : found.opened.form.name ≡ library.Program
  program_is = program_name files roots path found s run.loaded

  program_place : slice_get all (suc found.place) ≡ Some program
  program_place =
      let place = whole.place in
      let as_many = m.as_many in
      let same : length others ≡ found.place = omega (arith, place, as_many) in
      subst (λ k. slice_get (others ++ program ∷ []) k ≡ Some program) same (at_end others program)

  program_follows : Follows program (Behind found)
  program_follows =
      let same : needed_records records (true ∷ found.needs) ≡ Behind found = ap (λ (rs : List CompiledLibrary). needed_records rs (true ∷ found.needs)) m.parts ∙ with_first d others found.needs in
      let new : Among (names_of (Behind found)) program.name → ⊥ = new_behind (Behind found) (suc found.place) program (needed_before found whole.stands.closed) program_place in
      let name : found.opened.form.name ≡ program.name = program_is ∙ sym stand.last.named in
      expansion_follows d (records_at others (needed found)) (all_behind found whole.stands.closed (λ j less. follows_at j)) derived_name derived_is.exports prelude found.opened.path found.opened.form
      (program_body found.opened.«data») program (λ a. new (subst (Among (names_of (Behind found))) name a)) (λ e. let bad : library.Program ≡ library.Core = sym program_is ∙ e in absurd (cc))
      (λ e. let bad : library.Program ≡ library.Prelude = sym program_is ∙ e in absurd (cc)) (program_exports_once files roots path found s run.loaded)
      (subst (λ (rs : List CompiledLibrary). expand_library prelude rs found.opened.path found.opened.form (program_body found.opened.«data») ≡ Ok program) same run.expanded)

  -- ---- behind all that stand before it

  -- what a library needs is among the first records, as many as its place says
  needed_among : (f : Found) → NeedsAreClosed s.done f → (before after : List CompiledLibrary) → others ≡ before ++ after → f.place ≡ length before → AreAmong (Behind f) (d ∷ before)
  needed_among f closed before after e place q (inl is) = inl is
  needed_among f closed before after e place q (inr a) =
      let y = marked_from others zero f.needs q a in
      let same : zero + y.place ≡ y.place = omega arith in
      let less = (closed y.place y.marked).before in
      inr (first_among before after y.place q (omega (arith, less, place)) (subst (λ (rs : List CompiledLibrary). slice_get rs y.place ≡ Some q) e (subst (λ p. slice_get others p ≡ Some q) same y.there)))

  -- the first records come before the next one
  first_before : (before after : List CompiledLibrary) → others ≡ before ++ after → (x : CompiledLibrary) → Among (d ∷ before) x → IsBefore (suc (length before)) x
  first_before before after e x (inl is) = record { place = zero; there = ap (λ (r : CompiledLibrary). Some r) (sym is); before = omega arith }
  first_before before after e x (inr a) =
      let y = among_get before x a in
      record { place = suc y.0; there = place_in_all y.0 x (subst (λ (rs : List CompiledLibrary). slice_get rs y.0 ≡ Some x) (sym e) (at_first before after y.0 x y.1.0)); before = let less = y.1.1 in omega (arith, less) }
    where
      among_get : (rs : List CompiledLibrary) (r : CompiledLibrary) → Among rs r → (i : ℕ) × ((slice_get rs i ≡ Some r) × (i < length rs))
      among_get [] r a = elim a [ ]
      among_get (q ∷ rs) r (inl is) = (zero, (ap (λ (y : CompiledLibrary). Some y) (sym is), omega arith))
      among_get (q ∷ rs) r (inr a) = let y = among_get rs r a in (suc y.0, (y.1.0, let less = y.1.1 in omega (arith, less)))

  follows_first : (before : List CompiledLibrary) (r : CompiledLibrary) (after : List CompiledLibrary) → others ≡ before ++ r ∷ after → Follows r (d ∷ before)
  follows_first before r after e =
      let i = length before in
      let there : slice_get others i ≡ Some r = subst (λ (rs : List CompiledLibrary). slice_get rs i ≡ Some r) (sym e) (get_behind before r after) in
      let x = same_place others s.done i r m.as_many there in
      let f = x.0.1 in
      follows_wider r (Behind f) (d ∷ before) (needed_among f (whole.sound.stand i x.0.0 f x.1).closed before (r ∷ after) e (whole.sound.once.in_order i x.0.0 f x.1))
      (new_behind (d ∷ before) (suc i) r (first_before before (r ∷ after) e) (place_in_all i r there)) (follows_at i x.0.0 f r x.1 there)

  program_follows_all : Follows program (d ∷ others)
  program_follows_all =
      let as_many = m.as_many in
      let place = whole.place in
      let here : found.place ≡ length others = omega (arith, place, as_many) in
      let none : others ≡ others ++ [] = sym (append-nil others) in
      follows_wider program (Behind found) (d ∷ others) (needed_among found whole.stands.closed others [] none here)
      (new_behind (d ∷ others) (suc (length others)) program (first_before others [] none) (subst (λ k. slice_get all (suc k) ≡ Some program) here program_place)) program_follows

  all_follow : (before after : List CompiledLibrary) → others ≡ before ++ after → AllFollow (d ∷ before) (after ++ program ∷ [])
  all_follow before [] e = (subst (λ (rs : List CompiledLibrary). Follows program (d ∷ rs)) (e ∙ append-nil before) program_follows_all, tt)
  all_follow before (r ∷ after) e = (follows_first before r after e, all_follow (before ++ r ∷ []) after (e ∙ sym (append_assoc before (r ∷ []) after)))

  do_follow : DoFollow found s records program
  do_follow = record {
    derived = d;
    others = others;
    parts = m.parts;
    first = derived_is.follows;
    as_many = m.as_many;
    each = follows_at;
    last = program_follows;
    all = subst (λ (rs : List CompiledLibrary). AllFollow [] (rs ++ program ∷ [])) (sym m.parts) (derived_is.follows, all_follow [] others refl);
  }

pub records_follow_in_runs : RecordsFollowInRuns
records_follow_in_runs prelude files roots path found s records program run =
    do_follow prelude files roots path found s records program run (all_made prelude s.done records run.recorded) (all_records_stand prelude files roots path found s records program run)
