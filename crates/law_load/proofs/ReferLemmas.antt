-- One import is loaded, and what was loaded before stays as it was.
use Rattle.std.proofs.Common.{◌≡◌, ℕ, ◌+◌, ◌<◌, ◌≤◌, Bool, true, false, List, [], ◌∷◌, ◌++◌, length, Result, Ok, Err, Option, Some, None, refl, sym, ap, subst, ◌∙◌, inl, inr, arith, length-append, true≢false}
use Rattle.std.specs.Prelude.{◌⊎◌, is_some, nat_le, slice_get, if◌then◌else◌}
use Rattle.std.proofs.lemmas.Option.{slice_get_within}
use Rattle.base_data.specs.Gives.{◌>>=◌}
use Rattle.base_data.specs.declared.fault.Fault.{Fault}
use Rattle.base_data.specs.declared.fault.FaultKind.TheVariants as kind
use Rattle.load_builtin.specs.Exports.{exports}
use Rattle.load_file_names.specs.File.{file_of}
use Rattle.load_forms.specs.Version.{version_fits}
use Rattle.load_import.specs.declared.set.ImportSet.{ImportSet}
use Rattle.base_outside.specs.Contents.{Paths}
use Rattle.load_files.specs.Found.{is_needed_by, with_needs, with_done, most_libraries, found_of}
use Rattle.load_files.specs.Load.{Loader, lifted, about, known_of, settled, open_file, load_new, refer_to, refer}
use Rattle.load_files.specs.declared.found.Opened.{Opened}
use Rattle.load_files.specs.declared.found.Found.{Found}
use Rattle.load_files.specs.declared.found.Loading.{Loading}
use Rattle.load_files.specs.declared.refer.Known.{Known}
use Rattle.load_files.specs.declared.refer.Known.TheVariants as known
use Rattle.law_load.specs.Laws.{Libraries, IsAt, Needs, IsImported, NeedsAreClosed, Brings}
use Rattle.law_load.proofs.RowLemmas.{at_first, at_end, IsIn, IsNotIn, row_of, put_new, still_in, new_in, still_not_in}
use Rattle.law_load.proofs.MarkLemmas.{length-with_needs, mark_stays, mark_comes, needs_itself, needs_marked, mark_is, mark_cases}
use Rattle.law_load.proofs.Invariant.{Begun, Stands, Sound, needed_still, sound_with, Grows, grows_not}
use Rattle.law_load.proofs.OpenLemmas.{Ends, ends_on, ends_err, Idle, Opens, opens}
use Rattle.law_load.proofs.KnownLemmas.{New, Is, known_is}

abbrev pub IsSound : Loading → Type 0
IsSound s = Sound s.done s.begun

-- a file whose imports are being loaded
pub record Standing (o : Opened) (s : Loading) (needs : List Bool) : Type 0 where
  pub wide : length needs ≡ most_libraries
  pub closed : NeedsAreClosed s.done (found_of o needs s)

pub standing_still : (o : Opened) (s t : Loading) (needs : List Bool) → Grows s t → Standing o s needs → Standing o t needs
standing_still o s t needs g h = record {
  wide = h.wide;
  closed = λ p k. needed_still s.done t.done g.stay (found_of o needs s) (found_of o needs t) (λ q m. m) (λ q file a m at. slice_get_within t.done q (file, a) at) p (h.closed p k);
}

-- an import is loaded
pub record Referred (o : Opened) (needs : List Bool) (s : Loading) (set : ImportSet) (n : List Bool × Loading) : Type 0 where
  pub sound : IsSound n.1
  pub grows : Grows s n.1
  pub standing : Standing o n.1 n.0
  pub keeps : (p : ℕ) → slice_get needs p ≡ Some true → slice_get n.0 p ≡ Some true
  pub imported : IsImported n.1.done set (found_of o n.0 n.1)
  pub only : (p : ℕ) → slice_get n.0 p ≡ Some true → (slice_get needs p ≡ Some true) ⊎ Brings n.1.done set p
  -- all that was loaded for it is needed
  pub covers : (p : ℕ) → length s.done ≤ p → p < length n.1.done → slice_get n.0 p ≡ Some true

-- a library that is loaded is taken among those that are needed
module _ (o : Opened) (needs : List Bool) (t : Loading) (set : ImportSet) (library : Found) (k : ℕ)
    (sound : IsSound t) (standing : Standing o t needs) (there : IsAt t.done k (file_of set.library) library) where
  place : library.place ≡ k
  place = sound.once.in_order k (file_of set.library) library there

  -- each place has a mark
  has_mark : (p : ℕ) → p < length t.done → p < length needs
  has_mark p h = omega (arith, h, sound.room, sound.few, standing.wide)

  within : k < length t.done
  within = slice_get_within t.done k (file_of set.library, library) there

  comes : (p : ℕ) → p < length t.done → is_needed_by library p ≡ true → slice_get (with_needs needs library) p ≡ Some true
  comes p h e = mark_comes needs library p (has_mark p h) e

  comes_too : (p : ℕ) → Needs library p → slice_get (with_needs needs library) p ≡ Some true
  comes_too p h =
      let before = ((sound.stand k (file_of set.library) library there).closed p h).before in
      comes p (omega (arith, before, place, within)) (needs_marked library p h)

  itself : slice_get (with_needs needs library) k ≡ Some true
  itself = comes k within (subst (λ p. is_needed_by library p ≡ true) place (needs_itself library))

  closed : NeedsAreClosed t.done (found_of o (with_needs needs library) t)
  closed p h = elim (mark_cases needs library p h) [
    | inl old ↦ needed_still t.done t.done (λ i file a at. at) (found_of o needs t) (found_of o (with_needs needs library) t) (mark_stays needs library) (λ q file a m at. m) p (standing.closed p old)
    | inr new ↦ elim new [
      | inl e ↦ record {
        file = file_of set.library;
        library = library;
        there = subst (λ q. IsAt t.done q (file_of set.library) library) (sym (e ∙ place)) there;
        before = omega (arith, e, place, within);
        also = λ q m. comes_too q m;
      }
      | inr m ↦
          let n = (sound.stand k (file_of set.library) library there).closed p m in
          record { file = n.file; library = n.library; there = n.there; before = slice_get_within t.done p (n.file, n.library) n.there; also = λ q w. comes_too q (n.also q w) }
    ]
  ]

  brings : is_some (exports set.library) ≡ false → (p : ℕ) → (p ≡ library.place) ⊎ Needs library p → Brings t.done set p
  brings not_given p h = record { not_given = not_given; from = k; library = library; there = there; brought = elim h [ inl e ↦ inl (e ∙ place) | inr m ↦ inr m ] }

  covered : (p : ℕ) → (p ≡ library.place) ⊎ Needs library p → slice_get (with_needs needs library) p ≡ Some true
  covered p h = elim h [ inl e ↦ subst (λ q. slice_get (with_needs needs library) q ≡ Some true) (sym (e ∙ place)) itself | inr m ↦ comes_too p m ]

  pub takes : (s : Loading) → Grows s t → is_some (exports set.library) ≡ false → version_fits library.opened.form.version set.version ≡ true
      → ((p : ℕ) → length s.done ≤ p → p < length t.done → (p ≡ library.place) ⊎ Needs library p) → Referred o needs s set (with_needs needs library, t)
  takes s grows not_given fits all = record {
    sound = sound;
    grows = grows;
    standing = record { wide = length-with_needs needs library ∙ standing.wide; closed = closed };
    keeps = mark_stays needs library;
    imported = record {
      given = λ e. absurd (true≢false (sym e ∙ not_given));
      loaded_before = λ e. record { place = k; library = library; there = there; before = within; fits = fits; needed = itself };
    };
    only = λ p h. elim (mark_cases needs library p h) [ inl old ↦ inl old | inr new ↦ inr (brings not_given p new) ];
    covers = λ p low high. covered p (all p low high);
  }

-- ---- a library that is new

-- how a file is loaded
pub record IsLoaded (o : Opened) (s : Loading) (l : Found × Loading) : Type 0 where
  pub sound : IsSound l.1
  pub grows : Grows s l.1
  pub opened : l.0.opened ≡ o
  pub place : l.0.place ≡ length l.1.done
  pub stands : Stands l.1.done l.0
  pub covers : (p : ℕ) → length s.done ≤ p → p < length l.1.done → Needs l.0 p

module _ (s : Loading) (set : ImportSet) (sound : IsSound s) (new : New s set) (o : Opened) (t : Loading) (opening : Opens s set (o, t)) where
  begun_is : t.begun ≡ s.begun ++ (file_of set.library, tt) ∷ []
  begun_is = opening.begun ∙ put_new s.begun (file_of set.library) tt new.not_begun

  begun_more : length t.begun ≡ length s.begun + 1
  begun_more = ap length begun_is ∙ length-append s.begun ((file_of set.library, tt) ∷ [])

  as_many : length t.done ≡ length s.done
  as_many = ap length opening.done

  pub open_sound : IsSound t
  open_sound = subst (λ (d : Libraries). Sound d t.begun) (sym opening.done) (record {
    once = sound.once;
    stand = sound.stand;
    room = let a = sound.room in let b = begun_more in omega arith;
    few = let a = opening.few in let b = begun_more in omega arith;
  })

  still_begun : (name : List ℕ) → IsIn s.begun name → IsIn t.begun name
  still_begun name h = subst (λ (b : Begun). IsIn b name) (sym begun_is) (still_in s.begun ((file_of set.library, tt) ∷ []) name h)

  is_begun : IsIn t.begun (file_of set.library)
  is_begun = subst (λ (b : Begun). IsIn b (file_of set.library)) (sym begun_is) (new_in s.begun (file_of set.library) tt)

  still_waits : (name : List ℕ) → IsNotIn s.done name → IsNotIn t.done name
  still_waits name h = subst (λ (d : Libraries). IsNotIn d name) (sym opening.done) h

  -- it is loaded
  module _ (found : Found) (u : Loading) (loaded : IsLoaded o t (found, u)) where
    not_done : IsNotIn u.done (file_of set.library)
    not_done = loaded.grows.wait (file_of set.library) is_begun (still_waits (file_of set.library) new.not_done)

    pub done_is : (with_done u (file_of set.library) found).done ≡ u.done ++ (file_of set.library, found) ∷ []
    done_is = put_new u.done (file_of set.library) found not_done

    done_more : length (with_done u (file_of set.library) found).done ≡ length u.done + 1
    done_more = ap length done_is ∙ length-append u.done ((file_of set.library, found) ∷ [])

    pub end_sound : IsSound (with_done u (file_of set.library) found)
    end_sound = subst (λ (d : Libraries). Sound d u.begun) (sym done_is) (sound_with u.done u.begun (file_of set.library) found loaded.sound not_done loaded.place
        (ap file_of (sym (ap (λ (x : Opened). x.form.name) loaded.opened ∙ opening.name))) loaded.stands
        (let a = loaded.grows.slack in let b = begun_more in let c = as_many in let d = sound.room in omega arith))

    pub end_there : IsAt (with_done u (file_of set.library) found).done (length u.done) (file_of set.library) found
    end_there = ap (λ (d : Libraries). slice_get d (length u.done)) done_is ∙ at_end u.done (file_of set.library, found)

    pub end_grows : Grows s (with_done u (file_of set.library) found)
    end_grows = record {
      stay = λ i name a at.
          let first : IsAt t.done i name a = ap (λ (d : Libraries). slice_get d i) opening.done ∙ at in
          ap (λ (d : Libraries). slice_get d i) done_is ∙ at_first u.done ((file_of set.library, found) ∷ []) i (name, a) (loaded.grows.stay i name a first);
      begun = λ name h. loaded.grows.begun name (still_begun name h);
      wait = λ name h k. subst (λ (d : Libraries). IsNotIn d name) (sym done_is)
          (still_not_in u.done name (file_of set.library) found (loaded.grows.wait name (still_begun name h) (still_waits name k))
          (λ e. true≢false (sym (subst (IsIn s.begun) e h) ∙ new.not_begun)));
      slack = let a = loaded.grows.slack in let b = begun_more in let c = as_many in let d = done_more in omega arith;
    }

    -- what was loaded since is the library itself, or was loaded for it
    all_for_it : (p : ℕ) → length s.done ≤ p → p < length (with_done u (file_of set.library) found).done → (p ≡ found.place) ⊎ Needs found p
    all_for_it p low high = by (nat_le (length u.done) p) refl
      where
        by : (b : Bool) → nat_le (length u.done) p ≡ b → (p ≡ found.place) ⊎ Needs found p
        by true h =
            let least : length u.done ≤ p = grind (arith, h) in
            let last : p ≡ length u.done = omega (arith, least, high, done_more) in
            inl (last ∙ sym loaded.place)
        by false h =
            let less : p < length u.done = grind (arith, h) in
            let since : length t.done ≤ p = omega (arith, low, as_many) in
            inr (loaded.covers p since less)

    pub settles : (p : Opened) (needs : List Bool) → Standing p s needs → Ends (Referred p needs s set) IsSound (settled set needs found u)
    unfolding settled
    settles p needs standing = by (version_fits found.opened.form.version set.version) refl
      where
        by : (b : Bool) → version_fits found.opened.form.version set.version ≡ b
            → Ends (Referred p needs s set) IsSound (lifted (with_done u (file_of set.library) found)
            (if b then Ok (with_needs needs found, with_done u (file_of set.library) found) else Err (about kind.VersionRefused set)))
        by true fits =
            takes p needs (with_done u (file_of set.library) found) set found (length u.done) end_sound (standing_still p s (with_done u (file_of set.library) found) needs end_grows standing) end_there s end_grows new.not_given fits all_for_it
        by false fits = end_sound

-- ---- an import

abbrev pub LoadsWell : Loader → Type 0
LoadsWell load = (o : Opened) (s : Loading) → IsSound s → Ends (IsLoaded o s) IsSound (load o s)

abbrev pub InsideWell : Option Loader → Type 0
InsideWell None = Unit {0}
InsideWell (Some load) = LoadsWell load

module _ (files : Paths) (roots : List (List ℕ)) (p : Opened) (needs : List Bool) (s : Loading) (set : ImportSet) (sound : IsSound s) (standing : Standing p s needs) where
  loads_new : (inside : Option Loader) → InsideWell inside → New s set → Ends (Referred p needs s set) IsSound (load_new files roots inside needs s set)
  loads_new None well new = sound
  loads_new (Some load) well new =
      ends_on (Opens s set) (Referred p needs s set) IsSound (open_file files roots set s) (λ o. load o.0 o.1 >>= (λ l. settled set needs l.0 l.1))
      (ends_err (Opens s set) (Idle s) IsSound (open_file files roots set s) (λ t h. idle t h) (opens files roots set s))
      (λ o opening.
      ends_on (IsLoaded o.0 o.1) (Referred p needs s set) IsSound (load o.0 o.1) (λ l. settled set needs l.0 l.1) (well o.0 o.1 (open_sound s set sound new o.0 o.1 opening))
      (λ l loaded. settles s set sound new o.0 o.1 opening l.0 l.1 loaded p needs standing))
    where
      idle : (t : Loading) → Idle s t → IsSound t
      idle t h = subst (λ (d : Libraries). Sound d t.begun) (sym h.done) (subst (λ (b : Begun). Sound s.done b) (sym h.begun) sound)

  pub refers : (inside : Option Loader) → InsideWell inside → Ends (Referred p needs s set) IsSound (refer files roots inside needs s set)
  refers inside well = by (known_of s needs set) (λ k h. known_is s needs set k h)
    where
      by_known : (k : Known) → Is s needs set k → Ends (Referred p needs s set) IsSound (refer_to files roots inside needs s set (Ok k))
      by_known known.Builtin h = record {
        sound = sound;
        grows = grows_not s;
        standing = standing;
        keeps = λ q m. m;
        imported = record { given = λ e. h.fits; loaded_before = λ e. absurd (true≢false (sym h.given ∙ e)) };
        only = λ q m. inl m;
        covers = λ q low high. absurd (omega (arith, low, high));
      }
      by_known known.Joined h =
          let r = row_of (file_of set.library) s.done h.library h.there in
          let here = sound.once.in_order r.0 (file_of set.library) h.library r.1 in
          record {
            sound = sound;
            grows = grows_not s;
            standing = standing;
            keeps = λ q m. m;
            imported = record {
              given = λ e. absurd (true≢false (sym e ∙ h.not_given));
              loaded_before = λ e. record {
                place = r.0;
                library = h.library;
                there = r.1;
                before = slice_get_within s.done r.0 (file_of set.library, h.library) r.1;
                fits = h.fits;
                needed = subst (λ q. slice_get needs q ≡ Some true) here (mark_is (slice_get needs h.library.place) h.marked);
              };
            };
            only = λ q m. inl m;
            covers = λ q low high. absurd (omega (arith, low, high));
          }
      by_known (known.Loaded _) h =
          let r = row_of (file_of set.library) s.done h.library h.there in
          subst (λ n. Referred p needs s set (n, s)) h.marks (takes p needs s set h.library r.0 sound standing r.1 s (grows_not s) h.not_given h.fits (λ p low high. absurd (omega (arith, low, high))))
      by_known known.New h = loads_new inside well h

      by : (r : Result Known Fault) → ((k : Known) → r ≡ Ok k → Is s needs set k) → Ends (Referred p needs s set) IsSound (refer_to files roots inside needs s set r)
      by (Ok k) h = by_known k (h k refl)
      by (Err f) h = sound
