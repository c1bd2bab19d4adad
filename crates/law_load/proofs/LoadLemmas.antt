-- A file is loaded after its imports, one after another, and these after theirs.
use Rattle.std.proofs.Common.{◌≡◌, ℕ, zero, suc, ◌<◌, ◌≤◌, Bool, true, false, List, [], ◌∷◌, length, Result, Ok, Err, Option, Some, None, refl, subst, inl, inr, arith}
use Rattle.std.specs.Prelude.{◌⊎◌, nat_le, slice_get}
use Rattle.std.proofs.lemmas.Option.{slice_get_within}
use Rattle.base_data.specs.Gives.{◌>>=◌}
use Rattle.base_data.specs.declared.fault.Fault.{Fault}
use Rattle.load_forms.specs.declared.set.Import.{Import}
use Rattle.base_outside.specs.Contents.{Paths, at_path, Reading, bytes, longer, absent, read_of}
use Rattle.load_files.specs.Found.{nothing_loaded, no_needs, with_source, most_libraries, found_of}
use Rattle.load_files.specs.Load.{Loads, Loader, lifted, file_limit, program_in, refer, refer_each, load_with, load_file, program_from, load}
use Rattle.load_files.specs.declared.found.Opened.{Opened}
use Rattle.load_files.specs.declared.found.Found.{Found}
use Rattle.load_files.specs.declared.found.Loading.{Loading}
use Rattle.law_load.specs.Laws.{IsImported, IsBrought, Needs}
use Rattle.law_load.proofs.MarkLemmas.{length-no_needs, no_mark}
use Rattle.law_load.proofs.Invariant.{Stands, nothing_sound, imported_still, brings_still, Grows, grows_not, grows_on}
use Rattle.law_load.proofs.OpenLemmas.{Ends, ends_on, ends_ok}
use Rattle.law_load.proofs.ReferLemmas.{IsSound, Standing, Referred, IsLoaded, LoadsWell, InsideWell, refers}

-- some imports are loaded
pub record ReferredAll (o : Opened) (needs : List Bool) (s : Loading) (is : List Import) (n : List Bool × Loading) : Type 0 where
  pub sound : IsSound n.1
  pub grows : Grows s n.1
  pub standing : Standing o n.1 n.0
  pub keeps : (p : ℕ) → slice_get needs p ≡ Some true → slice_get n.0 p ≡ Some true
  pub imported : (k : ℕ) (i : Import) → slice_get is k ≡ Some i → IsImported n.1.done i.set (found_of o n.0 n.1)
  pub only : (p : ℕ) → slice_get n.0 p ≡ Some true → (slice_get needs p ≡ Some true) ⊎ IsBrought n.1.done is p
  pub covers : (p : ℕ) → length s.done ≤ p → p < length n.1.done → slice_get n.0 p ≡ Some true

module _ (o : Opened) (needs : List Bool) (s : Loading) (i : Import) (is : List Import) (m n : List Bool × Loading) (r : Referred o needs s i.set m) (rest : ReferredAll o m.0 m.1 is n) where
  first : IsImported n.1.done i.set (found_of o n.0 n.1)
  first = imported_still m.1.done n.1.done rest.grows.stay (found_of o m.0 m.1) (found_of o n.0 n.1) rest.keeps (λ p file a h at. slice_get_within n.1.done p (file, a) at) i.set r.imported

  each : (k : ℕ) (j : Import) → slice_get (i ∷ is) k ≡ Some j → IsImported n.1.done j.set (found_of o n.0 n.1)
  each zero j h = let same : i ≡ j = cc in subst (λ (x : Import). IsImported n.1.done x.set (found_of o n.0 n.1)) same first
  each (suc k) j h = rest.imported k j h

  only : (p : ℕ) → slice_get n.0 p ≡ Some true → (slice_get needs p ≡ Some true) ⊎ IsBrought n.1.done (i ∷ is) p
  only p h = elim (rest.only p h) [
    | inl marked ↦ elim (r.only p marked) [
      | inl old ↦ inl old
      | inr b ↦ inr (record { n = zero; import = i; among = refl; brings = brings_still m.1.done n.1.done rest.grows.stay i.set p b })
    ]
    | inr b ↦ inr (record { n = suc b.n; import = b.import; among = b.among; brings = b.brings })
  ]

  covers : (p : ℕ) → length s.done ≤ p → p < length n.1.done → slice_get n.0 p ≡ Some true
  covers p low high = by (nat_le (length m.1.done) p) refl
    where
      by : (b : Bool) → nat_le (length m.1.done) p ≡ b → slice_get n.0 p ≡ Some true
      by true h = let least : length m.1.done ≤ p = grind (arith, h) in rest.covers p least high
      by false h = let less : p < length m.1.done = grind (arith, h) in rest.keeps p (r.covers p low less)

  pub and_the_rest : ReferredAll o needs s (i ∷ is) n
  and_the_rest = record {
    sound = rest.sound;
    grows = grows_on s m.1 n.1 r.grows rest.grows;
    standing = rest.standing;
    keeps = λ p h. rest.keeps p (r.keeps p h);
    imported = each;
    only = only;
    covers = covers;
  }

module _ (files : Paths) (roots : List (List ℕ)) where
  pub refers_each : (inside : Option Loader) → InsideWell inside → (o : Opened) (needs : List Bool) (s : Loading) (is : List Import) → IsSound s → Standing o s needs
      → Ends (ReferredAll o needs s is) IsSound (refer_each files roots inside needs s is)
  unfolding refer_each
  refers_each inside well o needs s [] sound standing = record {
    sound = sound;
    grows = grows_not s;
    standing = standing;
    keeps = λ p h. h;
    imported = λ k i h. absurd (cc);
    only = λ p h. inl h;
    covers = λ p low high. absurd (omega (arith, low, high));
  }
  refers_each inside well o needs s (i ∷ is) sound standing =
      ends_on (Referred o needs s i.set) (ReferredAll o needs s (i ∷ is)) IsSound (refer files roots inside needs s i.set) (λ n. refer_each files roots inside n.0 n.1 is)
      (refers files roots o needs s i.set sound standing inside well)
      (λ m r. ends_ok (ReferredAll o m.0 m.1 is) (ReferredAll o needs s (i ∷ is)) IsSound (refer_each files roots inside m.0 m.1 is)
      (λ n rest. and_the_rest o needs s i is m n r rest) (refers_each inside well o m.0 m.1 is r.sound r.standing))

  loads_with : (inside : Option Loader) → InsideWell inside → LoadsWell (load_with files roots inside)
  loads_with inside well o s sound =
      ends_on (ReferredAll o no_needs s o.form.imports) (IsLoaded o s) IsSound (refer_each files roots inside no_needs s o.form.imports) (λ n. Ok (found_of o n.0 n.1, n.1))
      (refers_each inside well o no_needs s o.form.imports sound (record { wide = length-no_needs; closed = λ p h. absurd (no_mark p h) }))
      (λ n r. record {
        sound = r.sound;
        grows = r.grows;
        opened = refl;
        place = refl;
        stands = record { after = r.imported; closed = r.standing.closed; only = λ p h. elim (r.only p h) [ inl m ↦ absurd (no_mark p m) | inr b ↦ b ] };
        covers = r.covers;
      })

  pub loads_file : (room : ℕ) → LoadsWell (load_file files roots room)
  unfolding load_file
  loads_file zero = loads_with None tt
  loads_file (suc room) = loads_with (Some (load_file files roots room)) (loads_file room)

-- ---- the program

-- what is loaded with a program
pub record IsWhole (l : Found × Loading) : Type 0 where
  pub sound : IsSound l.1
  pub place : l.0.place ≡ length l.1.done
  pub stands : Stands l.1.done l.0
  pub covers : (p : ℕ) → p < length l.1.done → Needs l.0 p

module _ (files : Paths) (roots : List (List ℕ)) (path : List ℕ) where
  loads_program : (r : Reading) → Ends IsWhole IsSound (program_from files roots path r)
  loads_program absent = nothing_sound
  loads_program longer = nothing_sound
  loads_program (bytes held) = by (program_in path held)
    where
      by : (r : Result Opened Fault) → Ends IsWhole IsSound (lifted (with_source nothing_loaded path held) r >>= (λ o. load_file files roots most_libraries o (with_source nothing_loaded path held)))
      by (Ok o) =
          ends_ok (IsLoaded o (with_source nothing_loaded path held)) IsWhole IsSound (load_file files roots most_libraries o (with_source nothing_loaded path held))
          (λ l h. record { sound = h.sound; place = h.place; stands = h.stands; covers = λ p high. h.covers p (omega arith) high }) (loads_file files roots most_libraries o (with_source nothing_loaded path held) nothing_sound)
      by (Err f) = nothing_sound

  loads : Ends IsWhole IsSound (load files roots path)
  unfolding load
  loads = loads_program (read_of (at_path files path) file_limit)

  pub loads_all : (program : Found) (s : Loading) → load files roots path ≡ Ok (program, s) → IsWhole (program, s)
  loads_all program s h = subst (λ (r : Loads (Found × Loading)). Ends IsWhole IsSound r) h loads

  pub loads_until : (s : Loading) (f : Fault) → load files roots path ≡ Err (s, f) → IsSound s
  loads_until s f h = subst (λ (r : Loads (Found × Loading)). Ends IsWhole IsSound r) h loads
