-- What holds of the libraries that are loaded, at each step of loading.
use Rattle.std.proofs.Common.{◌≡◌, ℕ, ◌+◌, ◌<◌, ◌≤◌, List, [], ◌∷◌, ◌++◌, length, sym, ap, subst, ◌∙◌, inl, inr, arith, length-append}
use Rattle.load_file_names.specs.File.{file_of}
use Rattle.load_forms.specs.declared.set.Import.{Import}
use Rattle.load_import.specs.declared.set.ImportSet.{ImportSet}
use Rattle.load_files.specs.Found.{most_libraries}
use Rattle.load_files.specs.declared.found.Found.{Found}
use Rattle.load_files.specs.declared.found.Loading.{Loading}
use Rattle.law_load.specs.Laws.{Libraries, IsAt, Needs, AreLoadedOnce, IsImported, IsAfterItsImports, IsNeeded, NeedsAreClosed, Brings, IsBrought, OnlyImportsAreNeeded}
use Rattle.law_load.proofs.RowLemmas.{at_first, at_cases, IsIn, IsNotIn, no_row}

-- the files that were begun
abbrev pub Begun : Type 0
Begun = List (List ℕ × Unit {0})

-- a library whose imports are loaded
pub record Stands (loaded : Libraries) (found : Found) : Type 0 where
  pub after : IsAfterItsImports loaded found
  pub closed : NeedsAreClosed loaded found
  pub only : OnlyImportsAreNeeded loaded found

pub record Sound (loaded : Libraries) (begun : Begun) : Type 0 where
  pub once : AreLoadedOnce loaded
  pub stand : (i : ℕ) (file : List ℕ) (a : Found) → IsAt loaded i file a → Stands loaded a
  -- so each place has a mark
  pub room : length loaded ≤ length begun
  pub few : length begun ≤ most_libraries

pub nothing_sound : Sound [] []
nothing_sound = record {
  once = record { once = λ i j file a b h k. cc; in_order = λ i file a h. cc; named = λ i file a h. cc };
  stand = λ i file a h. absurd (cc);
  room = omega arith;
  few = omega arith;
}

-- ---- more libraries are loaded

abbrev pub Stay : Libraries → Libraries → Type 0
Stay old new = (i : ℕ) (file : List ℕ) (a : Found) → IsAt old i file a → IsAt new i file a

module _ (old new : Libraries) (stay : Stay old new) where
  pub brings_still : (set : ImportSet) (place : ℕ) → Brings old set place → Brings new set place
  brings_still set place b = record { not_given = b.not_given; from = b.from; library = b.library; there = stay b.from (file_of set.library) b.library b.there; brought = b.brought }

  pub brought_still : (imports : List Import) (place : ℕ) → IsBrought old imports place → IsBrought new imports place
  brought_still imports place b = record { n = b.n; import = b.import; among = b.among; brings = brings_still b.import.set place b.brings }

  -- one that has more marks, and a place behind all that it needs
  module _ (f g : Found) (keeps : (p : ℕ) → Needs f p → Needs g p) (behind : (p : ℕ) (file : List ℕ) (a : Found) → p < f.place → IsAt new p file a → p < g.place) where
    pub imported_still : (set : ImportSet) → IsImported old set f → IsImported new set g
    imported_still set h = record {
      given = h.given;
      loaded_before = λ e.
          let b = h.loaded_before e in
          let there = stay b.place (file_of set.library) b.library b.there in
          record { place = b.place; library = b.library; there = there; before = behind b.place (file_of set.library) b.library b.before there; fits = b.fits; needed = keeps b.place b.needed };
    }

    pub needed_still : (p : ℕ) → IsNeeded old f p → IsNeeded new g p
    needed_still p h =
        let there = stay p h.file h.library h.there in
        record { file = h.file; library = h.library; there = there; before = behind p h.file h.library h.before there; also = λ q k. keeps q (h.also q k) }

  pub stands_still : (f : Found) → Stands old f → Stands new f
  stands_still f s = record {
    after = λ n i at. imported_still f f (λ p h. h) (λ p file a h at. h) i.set (s.after n i at);
    closed = λ p h. needed_still f f (λ p h. h) (λ p file a h at. h) p (s.closed p h);
    only = λ p h. brought_still f.opened.form.imports p (s.only p h);
  }

-- ---- one more library is loaded

module _ (loaded : Libraries) (begun : Begun) (file : List ℕ) (f : Found) where
  with_it : Libraries
  with_it = loaded ++ (file, f) ∷ []

  stay_with : Stay loaded with_it
  unfolding with_it
  stay_with i name a h = at_first loaded ((file, f) ∷ []) i (name, a) h

  -- it is the new one, or it was there
  module _ (P : Type 0) (i : ℕ) (name : List ℕ) (a : Found) where
    which : IsAt with_it i name a → (IsAt loaded i name a → P) → (i ≡ length loaded → file ≡ name → f ≡ a → P) → P
    unfolding with_it
    which at old new = elim (at_cases loaded (file, f) i (name, a) at) [
      | inl h ↦ old h
      | inr h ↦ new h.0 (ap (λ (r : List ℕ × Found). r.0) h.1) (ap (λ (r : List ℕ × Found). r.1) h.1)
    ]

  pub sound_with : Sound loaded begun → IsNotIn loaded file → f.place ≡ length loaded → file ≡ file_of f.opened.form.name → Stands loaded f → length loaded + 1 ≤ length begun → Sound (loaded ++ (file, f) ∷ []) begun
  unfolding with_it
  sound_with s apart place named stands room = record {
    once = record {
      once = λ i j name a b h k. which (i ≡ j) i name a h
          (λ at. which (i ≡ j) j name b k
          (λ too. s.once.once i j name a b at too)
          (λ e same g. absurd (no_row name loaded i a (subst (IsNotIn loaded) same apart) at)))
          (λ e same g. which (i ≡ j) j name b k
          (λ at. absurd (no_row name loaded j b (subst (IsNotIn loaded) same apart) at))
          (λ d twice w. e ∙ sym d));
      in_order = λ i name a h. which (a.place ≡ i) i name a h
          (λ at. s.once.in_order i name a at)
          (λ e same g. ap (λ (x : Found). x.place) (sym g) ∙ place ∙ sym e);
      named = λ i name a h. which (name ≡ file_of a.opened.form.name) i name a h
          (λ at. s.once.named i name a at)
          (λ e same g. sym same ∙ named ∙ ap (λ (x : Found). file_of x.opened.form.name) g);
    };
    stand = λ i name a h. which (Stands with_it a) i name a h
        (λ at. stands_still loaded with_it stay_with a (s.stand i name a at))
        (λ e same g. stands_still loaded with_it stay_with a (subst (Stands loaded) g stands));
    room = rw (length-append) (omega (arith, room));
    few = s.few;
  }

-- ---- from one step to a later one

pub record Grows (s t : Loading) : Type 0 where
  pub stay : Stay s.done t.done
  pub begun : (file : List ℕ) → IsIn s.begun file → IsIn t.begun file
  -- a library that waits for others isn't loaded by them
  pub wait : (file : List ℕ) → IsIn s.begun file → IsNotIn s.done file → IsNotIn t.done file
  pub slack : length t.done + length s.begun ≤ length t.begun + length s.done

pub grows_not : (s : Loading) → Grows s s
grows_not s = record { stay = λ i file a h. h; begun = λ file h. h; wait = λ file h k. k; slack = omega arith }

pub grows_on : (s t u : Loading) → Grows s t → Grows t u → Grows s u
grows_on s t u g h = record {
  stay = λ i file a at. h.stay i file a (g.stay i file a at);
  begun = λ file k. h.begun file (g.begun file k);
  wait = λ file k l. h.wait file (g.begun file k) (g.wait file k l);
  slack = let a = g.slack in let b = h.slack in omega arith;
}
