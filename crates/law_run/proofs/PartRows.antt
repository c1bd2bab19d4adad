-- The libraries of a run are expanded one after another, and none gets stuck.
use Rattle.std.proofs.Common.{◌≡◌, ℕ, zero, suc, ◌+◌, List, [], ◌∷◌, ◌++◌, length, Some, Result, Ok, Err, refl, sym, ap, subst, ◌∙◌, inl, inr, arith, append_assoc}
use Rattle.std.specs.Prelude.{◌⊎◌, slice_get}
use Rattle.base_data.specs.Datum.{PlainDatum}
use Rattle.base_data.specs.Elements.{Among}
use Rattle.base_data.specs.Gives.{◌>>=◌}
use Rattle.base_data.specs.declared.fault.Fault.{Fault}
use Rattle.base_data.specs.declared.library.LibName.{LibName}
use Rattle.base_data.specs.declared.library.LibName.TheVariants as library
use Rattle.core_language.specs.declared.record.CompiledLibrary.{CompiledLibrary}
use Rattle.law_core.specs.Follows.{names_of}
use Rattle.run_derived.specs.Derived.{derived_record}
use Rattle.eval_code.specs.Codes.{Codes}
use Rattle.law_expand.specs.Serves.{AllServe}
use Rattle.load_forms.specs.Form.{library_body}
use Rattle.load_import.specs.Turns.{turns}
use Rattle.run_library.specs.Library.{expand_library}
use Rattle.run_library.specs.Loaded.{expand_found, expand_next}
use Rattle.load_files.specs.declared.found.Found.{Found}
use Rattle.load_files.specs.declared.found.Loading.{Loading}
use Rattle.law_load.specs.Laws.{IsAt, NeedsAreClosed}
use Rattle.law_load.proofs.ReferLemmas.{IsSound}
use Rattle.law_load.proofs.RowLemmas.{at_cases}
use Rattle.law_run.specs.Run.{Stands}
use Rattle.law_run.proofs.BehindLemmas.{IsNew, library_stands, derived_stands}
use Rattle.law_kinds.specs.Kinds.{Tells}
use Rattle.law_stuck.specs.Behind.{IsOfTexts, IsBehind, AllBehind}
use Rattle.law_steady.proofs.Standing.{stands-behind}
use Rattle.law_run.specs.Stuck.{IsOther}
use Rattle.law_run.proofs.NamedFiles.{IsUser, AllUsers}
use Rattle.law_run.proofs.OtherFaults.{AreRead, library-other, derived-other}
use Rattle.law_run.proofs.PartBehind.{Behind, IsMadeBehind, AllMadeBehind, all-serve, all-behind, library-new}
use Rattle.law_local.proofs.BehindLemmas.{with_first}

-- what a result gives, or it is at fault in another way
abbrev pub Told : {A : Type 0} → (A → Type 0) → Result A Fault → Type 0
Told P (Ok x) = P x
Told P (Err f) = IsOther f.kind

pub told-then : {A B : Type 0} (P : A → Type 0) (Q : B → Type 0) (r : Result A Fault) (go : A → Result B Fault) → Told P r → ((x : A) → P x → Told Q (go x)) → Told Q (r >>= go)
told-then P Q (Ok x) go h k = k x h
told-then P Q (Err f) go h k = h

told-with : {A : Type 0} (P : A → Type 0) (r : Result A Fault) → Tells IsOther r → ((x : A) → r ≡ Ok x → P x) → Told P r
told-with P (Ok x) h k = k x refl
told-with P (Err f) h k = h

pub no-text-derived : IsOfTexts library.Derived → ⊥
no-text-derived (inl e) = absurd (cc)
no-text-derived (inr e) = absurd (cc)

pub no-text-program : (n : LibName) → n ≡ library.Program → IsOfTexts n → ⊥
no-text-program n is (inl e) = let bad : library.Program ≡ library.Core = sym is ∙ e in absurd (cc)
no-text-program n is (inr e) = let bad : library.Program ≡ library.Prelude = sym is ∙ e in absurd (cc)

pub no-text-user : (n : LibName) → IsUser n → IsOfTexts n → ⊥
no-text-user n u (inl e) = subst IsUser e u
no-text-user n u (inr e) = subst IsUser e u

-- a record that expansion leaves stands behind the others too
pub is-behind : (records : List CompiledLibrary) (n : LibName) (r : CompiledLibrary) → AllBehind [] records → (Among (names_of records) n → ⊥) → (IsOfTexts n → ⊥) → Stands records n r → IsBehind records r
is-behind records n r all new no_text st =
    stands-behind records r all st.good st.keywords st.serves (λ a. new (subst (Among (names_of records)) st.named a)) (λ t. no_text (subst IsOfTexts st.named t))

-- ---- the derived library

pub record IsFirst (d : CompiledLibrary) : Type 0 where
  pub stands : Stands [] library.Derived d
  pub behind : IsBehind [] d

pub first-told : (prelude : Result Codes Fault) → AreRead prelude → Told IsFirst (derived_record prelude)
first-told prelude read =
    told-with IsFirst (derived_record prelude) (derived-other prelude read)
    (λ d h. let st = derived_stands d prelude h in record { stands = st; behind = is-behind [] library.Derived d tt (λ a. elim a [ ]) no-text-derived st })

module _ (s : Loading) (sound : IsSound s) (users : AllUsers s.done) (d : CompiledLibrary) (first : IsFirst d) where
  -- ---- one library

  -- what its record is, where it has one
  pub record IsItsRecord (others : List CompiledLibrary) (f : Found) (r : CompiledLibrary) : Type 0 where
    pub stands : Stands (Behind d others f) f.opened.form.name r
    pub behind : IsBehind (Behind d others f) r

  -- ---- one after another

  pub last-place : (xs : List CompiledLibrary) (r : CompiledLibrary) (j : ℕ) → length xs + suc j ≡ length (xs ++ r ∷ []) + j
  last-place [] r j = omega arith
  last-place (z ∷ xs) r j = let e = last-place xs r j in omega (arith, e)

  -- the record is the last of them
  pub made-more : (others : List CompiledLibrary) → AllMadeBehind s d others → (file : List ℕ) (f : Found) → IsAt s.done (length others) file f → (r : CompiledLibrary) → IsItsRecord others f r
      → AllMadeBehind s d (others ++ r ∷ [])
  made-more others made file f here r g i name x y at there = by (at_cases others r i y there)
    where
      by : (slice_get others i ≡ Some y) ⊎ ((i ≡ length others) × (r ≡ y)) → IsMadeBehind d (others ++ r ∷ []) x y
      by (inl old) =
          let m = made i name x y at old in
          let parts : others ++ r ∷ [] ≡ m.before ++ (m.after ++ r ∷ []) = ap (λ (rs : List CompiledLibrary). rs ++ r ∷ []) m.parts ∙ append_assoc m.before m.after (r ∷ []) in
          record { before = m.before; after = m.after ++ r ∷ []; parts = parts; stands = m.stands; behind = m.behind }
      by (inr e) =
          let place : slice_get s.done (length others) ≡ Some (name, x) = subst (λ n. slice_get s.done n ≡ Some (name, x)) e.0 at in
          let rows : ◌≡◌ {A = List ℕ × Found} (file, f) (name, x) = cc in
          let same : f ≡ x = ap (λ (row : List ℕ × Found). row.1) rows in
          subst (λ (z : CompiledLibrary). IsMadeBehind d (others ++ r ∷ []) x z) e.1
          (subst (λ (z : Found). IsMadeBehind d (others ++ r ∷ []) z r) same (record { before = others; after = r ∷ []; parts = refl; stands = g.stands; behind = g.behind }))

module _ (prelude : Result Codes Fault) (read : AreRead prelude) (s : Loading) (sound : IsSound s) (users : AllUsers s.done) (d : CompiledLibrary) (first : IsFirst d) where
  abbrev Its : List CompiledLibrary → Found → CompiledLibrary → Type 0
  Its others f r = IsItsRecord s sound users d first others f r

  pub found-told : (others : List CompiledLibrary) → AllMadeBehind s d others → (f : Found) → NeedsAreClosed s.done f → IsNew (Behind d others f) f.opened.form.name
      → (IsOfTexts f.opened.form.name → ⊥) → (body : List PlainDatum) → Told (Its others f) (expand_found prelude (d ∷ others) f body)
  found-told others made f closed new no_text body =
      subst (λ (rs : List CompiledLibrary). Told (Its others f) (expand_library prelude rs f.opened.path f.opened.form body)) (sym (with_first d others f.needs))
      (told-with (Its others f) (expand_library prelude (Behind d others f) f.opened.path f.opened.form body)
      (library-other prelude read (Behind d others f) behind f.opened.form (record { new = new; earlier = serve }) no_text f.opened.path body)
      (λ r h. let st = library_stands (Behind d others f) serve f.opened.path f.opened.form new body r prelude h in
      record { stands = st; behind = is-behind (Behind d others f) f.opened.form.name r behind new no_text st }))
    where
      serve : AllServe [] (Behind d others f)
      serve = all-serve s sound users d first.stands first.behind others made f closed

      behind : AllBehind [] (Behind d others f)
      behind = all-behind s sound users d first.stands first.behind others made f closed

  -- the records of a part of a run
  pub record AreMade (records : List CompiledLibrary) : Type 0 where
    pub others : List CompiledLibrary
    pub parts : records ≡ d ∷ others
    pub made : AllMadeBehind s d others

  -- the rows from a place on
  abbrev AreLeft : ℕ → List (List ℕ × Found) → Type 0
  AreLeft k rows = (p : ℕ) → slice_get rows p ≡ slice_get s.done (k + p)

  -- one more record
  record IsNext (others : List CompiledLibrary) (f : Found) (more : List CompiledLibrary) : Type 0 where
    last : CompiledLibrary
    parts : more ≡ d ∷ (others ++ last ∷ [])
    gives : Its others f last

  pub rows-told : (rows : List (List ℕ × Found)) (others : List CompiledLibrary) → AreLeft (length others) rows → AllMadeBehind s d others → Told AreMade (turns (expand_next prelude) (d ∷ others) rows)
  rows-told [] others left made = record { others = others; parts = refl; made = made }
  rows-told (row ∷ rows) others left made =
      told-then (IsNext others row.1) AreMade (expand_next prelude (d ∷ others) row) (λ more. turns (expand_next prelude) more rows)
      (told-then (Its others row.1) (IsNext others row.1) (expand_found prelude (d ∷ others) row.1 body) (λ r. Ok (d ∷ (others ++ r ∷ [])))
      (found-told others made row.1 closed (library-new s sound users d first.stands first.behind others made row.1 closed (length others) row.0 here)
      (no-text-user row.1.opened.form.name (users (length others) row.0 row.1 here)) body)
      (λ r g. record { last = r; parts = refl; gives = g }))
      (λ more n.
      subst (λ (rs : List CompiledLibrary). Told AreMade (turns (expand_next prelude) rs rows)) (sym n.parts)
      (rows-told rows (others ++ n.last ∷ []) (left-on n.last) (made-more s sound users d first others made row.0 row.1 here n.last n.gives)))
    where
      body : List PlainDatum
      body = library_body row.1.opened.«data»

      here : IsAt s.done (length others) row.0 row.1
      here = let e : length others + zero ≡ length others = omega arith in let k = left zero in subst (λ n. slice_get s.done n ≡ Some row) e (sym k)

      closed : NeedsAreClosed s.done row.1
      closed = (sound.stand (length others) row.0 row.1 here).closed

      left-on : (r : CompiledLibrary) → AreLeft (length (others ++ r ∷ [])) rows
      left-on r p = left (suc p) ∙ ap (slice_get s.done) (last-place s sound users d first others r p)
