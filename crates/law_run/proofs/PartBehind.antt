-- In a part of a run, as far as it came, the records that a library needs stand behind one another.
use Rattle.std.proofs.Common.{◌≡◌, ℕ, zero, suc, ◌+◌, ◌<◌, Bool, true, false, List, [], ◌∷◌, ◌++◌, Option, Some, None, refl, sym, ap, subst, ◌∙◌, inl, inr, arith}
use Rattle.std.specs.Prelude.{◌⊎◌, slice_get}
use Rattle.base_data.proofs.ElementLemmas.{among-first, among-second, among-parts}
use Rattle.base_data.specs.Elements.{Among}
use Rattle.base_data.specs.declared.library.LibName.{LibName}
use Rattle.base_data.specs.declared.library.LibName.TheVariants as library
use Rattle.core_language.specs.declared.record.CompiledLibrary.{CompiledLibrary}
use Rattle.law_core.specs.Follows.{names_of}
use Rattle.law_expand.specs.Serves.{Serves, AllServe}
use Rattle.law_expand.proofs.AllServe.{serves-names}
use Rattle.load_file_names.specs.File.{file_of}
use Rattle.load_files.specs.Found.{places_from, needed}
use Rattle.load_files.specs.declared.found.Found.{Found}
use Rattle.load_files.specs.declared.found.Loading.{Loading}
use Rattle.law_load.specs.Laws.{IsAt, Needs, NeedsAreClosed}
use Rattle.law_load.proofs.ReferLemmas.{IsSound}
use Rattle.law_load.proofs.RowLemmas.{at_first}
use Rattle.expand_standing.specs.Start.{or_skip, records_at}
use Rattle.law_run.specs.Run.{Stands}
use Rattle.law_run.proofs.NameLemmas.{name_among, named_among}
use Rattle.law_run.proofs.PlaceLemmas.{marked_from}
use Rattle.law_run.proofs.BehindLemmas.{IsNew}
use Rattle.law_stuck.specs.Behind.{IsBehind, AllBehind}
use Rattle.law_steady.proofs.Standing.{more_before}
use Rattle.law_run.proofs.NamedFiles.{IsUser, AllUsers}

pub user-no-derived : (n : LibName) → IsUser n → n ≡ library.Derived → ⊥
user-no-derived n u e = subst IsUser e u

below-next : (p k : ℕ) → p < suc k → (p < k) ⊎ (p ≡ k)
below-next zero zero h = inr refl
below-next zero (suc k) h = inl (omega arith)
below-next (suc p) zero h = absurd (omega (arith, h))
below-next (suc p) (suc k) h = elim (below-next p k (omega (arith, h))) [ inl l ↦ inl (omega (arith, l)) | inr e ↦ inr (ap suc e) ]

-- before a place where something stands, something stands
pub earlier-there : {A : Type 0} (xs : List A) (p k : ℕ) (x : A) → p < k → slice_get xs k ≡ Some x → (y : A) × (slice_get xs p ≡ Some y)
earlier-there [] p k x less h = absurd (cc)
earlier-there (a ∷ xs) zero k x less h = (a, refl)
earlier-there (a ∷ xs) (suc p) zero x less h = absurd (omega (arith, less))
earlier-there (a ∷ xs) (suc p) (suc k) x less h = earlier-there xs p k x (omega (arith, less)) h

-- names of some records are names of records among which they are
names-within : (xs ys : List CompiledLibrary) → ((r : CompiledLibrary) → Among xs r → Among ys r) → (n : LibName) → Among (names_of xs) n → Among (names_of ys) n
names-within xs ys within n a = let x = named_among xs n a in subst (Among (names_of ys)) x.name (name_among ys x.record_of (within x.record_of x.among))

-- The records that a library needs, behind that of the derived library: those of these that it marks.
abbrev pub Behind : CompiledLibrary → List CompiledLibrary → Found → List CompiledLibrary
Behind d others f = d ∷ records_at others (needed f)

-- The record of a library of a part of a run: it stands behind what the library needs of the records before it.
pub record IsMadeBehind (d : CompiledLibrary) (others : List CompiledLibrary) (f : Found) (r : CompiledLibrary) : Type 0 where
  pub before : List CompiledLibrary
  pub after : List CompiledLibrary
  pub parts : others ≡ before ++ after
  pub stands : Stands (Behind d before f) f.opened.form.name r
  pub behind : IsBehind (Behind d before f) r

-- so it is with each record that there is
abbrev pub AllMadeBehind : Loading → CompiledLibrary → List CompiledLibrary → Type 0
AllMadeBehind s d others = (i : ℕ) (file : List ℕ) (f : Found) (r : CompiledLibrary) → IsAt s.done i file f → slice_get others i ≡ Some r → IsMadeBehind d others f r

module _ (s : Loading) (sound : IsSound s) (users : AllUsers s.done) (d : CompiledLibrary) (first : Stands [] library.Derived d) (first_behind : IsBehind [] d)
    (others : List CompiledLibrary) (made : AllMadeBehind s d others) where
  -- libraries of one name stand at one place
  pub one-place : (i j : ℕ) (file other : List ℕ) (f g : Found) → IsAt s.done i file f → IsAt s.done j other g → f.opened.form.name ≡ g.opened.form.name → i ≡ j
  one-place i j file other f g at to e =
      let same : file ≡ other = sound.once.named i file f at ∙ ap file_of e ∙ sym (sound.once.named j other g to) in
      sound.once.once i j other f g (subst (λ n. IsAt s.done i n f) same at) to

  module _ (f : Found) (closed : NeedsAreClosed s.done f) where
    -- a record at a place before this one
    record IsBelow (k : ℕ) (x : CompiledLibrary) : Type 0 where
      place : ℕ
      less : place < k
      there : slice_get others place ≡ Some x

    -- the record of the derived library, and those that are needed below a place, and no more
    record Has (done : List CompiledLibrary) (k : ℕ) : Type 0 where
      derived : Among done d
      below : (p : ℕ) (x : CompiledLibrary) → p < k → Needs f p → slice_get others p ≡ Some x → Among done x
      only : (x : CompiledLibrary) → Among done x → (x ≡ d) ⊎ IsBelow k x

    still-below : (k : ℕ) (x : CompiledLibrary) → (x ≡ d) ⊎ IsBelow k x → (x ≡ d) ⊎ IsBelow (suc k) x
    still-below k x (inl e) = inl e
    still-below k x (inr b) = let l = b.less in inr (record { place = b.place; less = omega (arith, l); there = b.there })

    has-past : (done : List CompiledLibrary) (k : ℕ) → Has done k → ((x : CompiledLibrary) → Needs f k → slice_get others k ≡ Some x → ⊥) → Has done (suc k)
    has-past done k has none = record { derived = has.derived; below = λ p x less need at. by p x (below-next p k less) need at; only = λ x a. still-below k x (has.only x a) }
      where
        by : (p : ℕ) (x : CompiledLibrary) → (p < k) ⊎ (p ≡ k) → Needs f p → slice_get others p ≡ Some x → Among done x
        by p x (inl l) need at = has.below p x l need at
        by p x (inr e) need at = absurd (none x (subst (Needs f) e need) (subst (λ i. slice_get others i ≡ Some x) e at))

    has-new : (done : List CompiledLibrary) (k : ℕ) (r : CompiledLibrary) → Has done k → slice_get others k ≡ Some r → Has (done ++ r ∷ []) (suc k)
    has-new done k r has here = record {
      derived = among-first done (r ∷ []) d has.derived;
      below = λ p x less need at. by p x (below-next p k less) need at;
      only = λ x a. to x (among-parts done (r ∷ []) x a);
    }
      where
        by : (p : ℕ) (x : CompiledLibrary) → (p < k) ⊎ (p ≡ k) → Needs f p → slice_get others p ≡ Some x → Among (done ++ r ∷ []) x
        by p x (inl l) need at = among-first done (r ∷ []) x (has.below p x l need at)
        by p x (inr e) need at =
            let there : slice_get others k ≡ Some x = subst (λ i. slice_get others i ≡ Some x) e at in
            let same : x ≡ r = cc in
            among-second done (r ∷ []) x (inl same)

        to : (x : CompiledLibrary) → Among done x ⊎ Among (r ∷ []) x → (x ≡ d) ⊎ IsBelow (suc k) x
        to x (inl a) = still-below k x (has.only x a)
        to x (inr (inr a)) = absurd a
        to x (inr (inl e)) = inr (record { place = k; less = omega arith; there = subst (λ (y : CompiledLibrary). slice_get others k ≡ Some y) (sym e) here })

    -- ---- one of these records

    module _ (done : List CompiledLibrary) (k : ℕ) (r : CompiledLibrary) (has : Has done k) (need : Needs f k) (at : slice_get others k ≡ Some r) where
      -- it stands behind records that are there: what its library needs is needed, and came before it
      here : IsMadeBehind d others (closed k need).library r
      here = let n = closed k need in made k n.file n.library r n.there at

      within : (y : CompiledLibrary) → Among (Behind d here.before (closed k need).library) y → Among done y
      within y (inl e) = subst (Among done) (sym e) has.derived
      within y (inr a) =
          let n = closed k need in
          let z = marked_from here.before zero n.library.needs y a in
          let same : zero + z.place ≡ z.place = omega arith in
          let earlier = ((sound.stand k n.file n.library n.there).closed z.place z.marked).before in
          let place = sound.once.in_order k n.file n.library n.there in
          let less : z.place < k = omega (arith, earlier, place) in
          let there : slice_get here.before z.place ≡ Some y = subst (λ p. slice_get here.before p ≡ Some y) same z.there in
          has.below z.place y less (n.also z.place z.marked) (subst (λ (rs : List CompiledLibrary). slice_get rs z.place ≡ Some y) (sym here.parts) (at_first here.before here.after z.place y there))

      new-here : Among (names_of done) r.name → ⊥
      new-here a = let x = named_among done r.name a in by x.record_of x.name (has.only x.record_of x.among)
        where
          by : (x : CompiledLibrary) → x.name ≡ r.name → (x ≡ d) ⊎ IsBelow k x → ⊥
          by x e (inl same) =
              let n = closed k need in
              user-no-derived n.library.opened.form.name (users k n.file n.library n.there) (sym here.stands.named ∙ sym e ∙ ap (λ (y : CompiledLibrary). y.name) same ∙ first.named)
          by x e (inr b) =
              let n = closed k need in
              let l = earlier-there s.done b.place k (n.file, n.library) b.less n.there in
              let m = made b.place l.0.0 l.0.1 x l.1 b.there in
              let same = one-place b.place k l.0.0 n.file l.0.1 n.library l.1 n.there (sym m.stands.named ∙ e ∙ here.stands.named) in
              let less = b.less in
              absurd (omega (arith, same, less))

      serves-here : Serves done r
      serves-here = serves-names (Behind d here.before (closed k need).library) done r (names-within (Behind d here.before (closed k need).library) done within) here.stands.serves

      behind-here : IsBehind done r
      behind-here = more_before (Behind d here.before (closed k need).library) done r within new-here here.behind

    -- ---- all of them

    -- the marks from a place on
    abbrev AreMarks : ℕ → List Bool → Type 0
    AreMarks k ms = (p : ℕ) → slice_get ms p ≡ slice_get f.needs (k + p)

    mark-here : (k : ℕ) (m : Bool) (ms : List Bool) → AreMarks k (m ∷ ms) → slice_get f.needs k ≡ Some m
    mark-here k m ms same = let e : k + zero ≡ k = omega arith in ap (slice_get f.needs) (sym e) ∙ sym (same zero)

    marks-on : (k : ℕ) (m : Bool) (ms : List Bool) → AreMarks k (m ∷ ms) → AreMarks (suc k) ms
    marks-on k m ms same p = let e : k + suc p ≡ suc k + p = omega arith in same (suc p) ∙ ap (slice_get f.needs) e

    abbrev Both : List CompiledLibrary → List CompiledLibrary → Type 0
    Both done rest = AllServe done rest × AllBehind done rest

    walk : (k : ℕ) (ms : List Bool) (done : List CompiledLibrary) → AreMarks k ms → Has done k → Both done (records_at others (places_from k ms))
    unfolding places_from
    walk k [] done same has = (tt, tt)
    walk k (false ∷ ms) done same has =
        let not_needed = mark-here k false ms same in
        walk (suc k) ms done (marks-on k false ms same) (has-past done k has (λ x need at. cc))
    walk k (true ∷ ms) done same has = by (slice_get others k) refl (λ more h. walk (suc k) ms more (marks-on k true ms same) h)
      where
        by : (o : Option CompiledLibrary) → slice_get others k ≡ o → ((more : List CompiledLibrary) → Has more (suc k) → Both more (records_at others (places_from (suc k) ms)))
            → Both done (or_skip o (records_at others (places_from (suc k) ms)))
        by None e rest = rest done (has-past done k has (λ x need at. cc))
        by (Some r) e rest =
            let need = mark-here k true ms same in
            let more = rest (done ++ r ∷ []) (has-new done k r has e) in
            ((serves-here done k r has need e, more.0), (behind-here done k r has need e, more.1))

    all : Both (d ∷ []) (records_at others (needed f))
    all = walk zero f.needs (d ∷ []) (λ p. let e : p ≡ zero + p = omega arith in ap (slice_get f.needs) e)
        (record { derived = inl refl; below = λ p x less need at. absurd (omega (arith, less)); only = λ x a. by x a })
      where
        by : (x : CompiledLibrary) → Among (d ∷ []) x → (x ≡ d) ⊎ IsBelow zero x
        by x (inl e) = inl e
        by x (inr a) = absurd a

    pub all-serve : AllServe [] (Behind d others f)
    all-serve = (first.serves, all.0)

    pub all-behind : AllBehind [] (Behind d others f)
    all-behind = (first_behind, all.1)

    -- ---- a new name

    -- the library of a name among them
    record IsNeededAs (n : LibName) : Type 0 where
      place : ℕ
      file : List ℕ
      library_there : Found
      there : IsAt s.done place file library_there
      before : place < f.place
      name : library_there.opened.form.name ≡ n

    needed-as : (n : LibName) → Among (names_of (records_at others (needed f))) n → IsNeededAs n
    needed-as n a =
        let x = named_among (records_at others (needed f)) n a in
        let z = marked_from others zero f.needs x.record_of x.among in
        let l = closed z.place z.marked in
        let same : zero + z.place ≡ z.place = omega arith in
        let m = made z.place l.file l.library x.record_of l.there (subst (λ p. slice_get others p ≡ Some x.record_of) same z.there) in
        record { place = z.place; file = l.file; library_there = l.library; there = l.there; before = l.before; name = sym m.stands.named ∙ x.name }

    -- that of a library at a place of its own
    pub library-new : (i : ℕ) (file : List ℕ) → IsAt s.done i file f → IsNew (Behind d others f) f.opened.form.name
    library-new i file at (inl e) = user-no-derived f.opened.form.name (users i file f at) (e ∙ first.named)
    library-new i file at (inr a) =
        let x = needed-as f.opened.form.name a in
        let same = one-place x.place i x.file file x.library_there f x.there at x.name in
        let less = x.before in
        let place = sound.once.in_order i file f at in
        absurd (omega (arith, less, same, place))

    -- and that of a program
    pub program-new : (n : LibName) → n ≡ library.Program → IsNew (Behind d others f) n
    program-new n is (inl e) = let bad : library.Program ≡ library.Derived = sym is ∙ e ∙ first.named in absurd (cc)
    program-new n is (inr a) = let x = needed-as n a in absurd (subst IsUser (x.name ∙ is) (users x.place x.file x.library_there x.there))
