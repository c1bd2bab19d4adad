-- What all of loading reads.
use Rattle.std.proofs.Common.{◌≡◌, ℕ, zero, suc, Bool, true, false, List, [], ◌∷◌, length, Result, Ok, Err, Option, Some, None, refl, sym, ap, subst, ◌∙◌, inl, arith}
use Rattle.std.specs.Prelude.{nat_lt, slice_get, if◌then◌else◌}
use Rattle.base_data.specs.Gives.{◌>>=◌}
use Rattle.base_data.specs.declared.fault.Fault.{Fault}
use Rattle.base_data.specs.declared.fault.FaultKind.TheVariants as kind
use Rattle.load_file_names.specs.File.{file_of}
use Rattle.load_forms.specs.Version.{version_fits}
use Rattle.load_forms.specs.declared.set.Import.{Import}
use Rattle.load_import.specs.declared.set.ImportSet.{ImportSet}
use Rattle.base_outside.specs.Contents.{Paths, at_path, bytes, longer, read_of}
use Rattle.load_files.specs.Found.{nothing_loaded, no_needs, most_libraries, held_at, with_needs, with_source, with_done, found_of}
use Rattle.load_files.specs.Load.{Loads, Loader, lifted, about, file_limit, program_in, open_file, known_of, settled, load_new, refer_to, refer, refer_each, load_with, load_file, program_from, load}
use Rattle.load_files.specs.declared.found.Source.{Source}
use Rattle.load_files.specs.declared.found.Opened.{Opened}
use Rattle.load_files.specs.declared.found.Found.{Found}
use Rattle.load_files.specs.declared.found.Loading.{Loading}
use Rattle.load_files.specs.declared.refer.Known.{Known}
use Rattle.load_files.specs.declared.refer.Known.TheVariants as known
use Rattle.law_load.specs.Sources.{AreFoundOnce}
use Rattle.law_load.proofs.OpenLemmas.{Ends, ends_on}
use Rattle.law_load.proofs.KnownLemmas.{New, Is, known_is}
use Rattle.law_load.proofs.ReadLemmas.{Reads, ReadsUntil, reads_until, stops_well, held_one, opens_well}

abbrev pub ReadsWell : {A : Type 0} → Paths → A × Loading → Type 0
ReadsWell files x = Reads files x.1.begun x.1.sources

abbrev pub StopsWell : Paths → Loading → Type 0
StopsWell files s = ReadsUntil files s.sources

-- an answer after which all is well read, or a fault
abbrev pub EndsWell : {A : Type 0} → Paths → Loads (A × Loading) → Type 0
EndsWell files r = Ends (λ x. ReadsWell files x) (StopsWell files) r

pub ends_well : {A B : Type 0} (files : Paths) (x : Loads (A × Loading)) (f : A × Loading → Loads (B × Loading)) → EndsWell files x
    → ((a : A × Loading) → Reads files a.1.begun a.1.sources → EndsWell files (f a)) → EndsWell files (x >>= f)
ends_well {A} {B} files x f h k = ends_on (λ (a : A × Loading). Reads files a.1.begun a.1.sources) (λ (b : B × Loading). Reads files b.1.begun b.1.sources) (λ t. ReadsUntil files t.sources) x f h k

abbrev pub LoaderReads : Paths → Loader → Type 0
LoaderReads files load = (o : Opened) (s : Loading) → Reads files s.begun s.sources → EndsWell files (load o s)

abbrev pub InsideReads : Paths → Option Loader → Type 0
InsideReads files None = Unit {0}
InsideReads files (Some load) = LoaderReads files load

module _ (files : Paths) (roots : List (List ℕ)) where
  settles_reading : (set : ImportSet) (needs : List Bool) (found : Found) (s : Loading) → Reads files s.begun s.sources → EndsWell files (settled set needs found s)
  unfolding settled
  settles_reading set needs found s r = by (version_fits found.opened.form.version set.version)
    where
      by : (b : Bool) → EndsWell files (lifted (with_done s (file_of set.library) found) (if b then Ok (with_needs needs found, with_done s (file_of set.library) found) else Err (about kind.VersionRefused set)))
      by true = r
      by false = stops_well files s r

  reads_new : (inside : Option Loader) → InsideReads files inside → (needs : List Bool) (s : Loading) (set : ImportSet) → Reads files s.begun s.sources → New s set → EndsWell files (load_new files roots inside needs s set)
  reads_new None well needs s set r new = stops_well files s r
  reads_new (Some load) well needs s set r new =
      ends_well files (open_file files roots set s) (λ o. load o.0 o.1 >>= (λ l. settled set needs l.0 l.1)) (opens_well files s set r new.not_begun roots)
      (λ o q. ends_well files (load o.0 o.1) (λ l. settled set needs l.0 l.1) (well o.0 o.1 q) (λ l k. settles_reading set needs l.0 l.1 k))

  reads_refer : (inside : Option Loader) → InsideReads files inside → (needs : List Bool) (s : Loading) (set : ImportSet) → Reads files s.begun s.sources → EndsWell files (refer files roots inside needs s set)
  reads_refer inside well needs s set r = by (known_of s needs set) (λ k h. known_is s needs set k h)
    where
      by_known : (k : Known) → Is s needs set k → EndsWell files (refer_to files roots inside needs s set (Ok k))
      by_known known.Builtin h = r
      by_known known.Joined h = r
      by_known (known.Loaded _) h = r
      by_known known.New h = reads_new inside well needs s set r h

      by : (x : Result Known Fault) → ((k : Known) → x ≡ Ok k → Is s needs set k) → EndsWell files (refer_to files roots inside needs s set x)
      by (Ok k) h = by_known k (h k refl)
      by (Err f) h = stops_well files s r

  reads_each : (inside : Option Loader) → InsideReads files inside → (needs : List Bool) (s : Loading) (is : List Import) → Reads files s.begun s.sources → EndsWell files (refer_each files roots inside needs s is)
  unfolding refer_each
  reads_each inside well needs s [] r = r
  reads_each inside well needs s (i ∷ is) r =
      ends_well files (refer files roots inside needs s i.set) (λ n. refer_each files roots inside n.0 n.1 is) (reads_refer inside well needs s i.set r) (λ n q. reads_each inside well n.0 n.1 is q)

  reads_with : (inside : Option Loader) → InsideReads files inside → LoaderReads files (load_with files roots inside)
  reads_with inside well o s r =
      ends_well files (refer_each files roots inside no_needs s o.form.imports) (λ n. Ok (found_of o n.0 n.1, n.1)) (reads_each inside well no_needs s o.form.imports r) (λ n q. q)

  reads_file : (room : ℕ) → LoaderReads files (load_file files roots room)
  unfolding load_file
  reads_file zero = reads_with None tt
  reads_file (suc room) = reads_with (Some (load_file files roots room)) (reads_file room)

  -- ---- the program

  module _ (path : List ℕ) where
    nothing_read : ReadsUntil files []
    nothing_read = reads_until files [] [] (record { as_held = λ i a h. absurd (cc); once = λ i j a b h k same found. absurd (cc); from = λ i a held h e. absurd (cc) })

    module _ (held : List ℕ) (there : at_path files path ≡ Some held) where
      one_source : (i : ℕ) (a : Source) → slice_get (held_at path held ∷ []) i ≡ Some a → (i ≡ zero) × (held_at path held ≡ a)
      one_source zero a h = (refl, cc)
      one_source (suc i) a h = absurd (cc)

      found_once : AreFoundOnce (held_at path held ∷ [])
      found_once i j a b h k same found = (one_source i a h).0 ∙ sym (one_source j b k).0

      program_read : (o : Opened) → program_in path held ≡ Ok o → Reads files [] (held_at path held ∷ [])
      program_read o e = record {
        as_held = held_one files path held there;
        once = found_once;
        from = λ i a h at is.
            let same : held_at path held ≡ a = (one_source i a at).1 in
            let bytes_are : ◌≡◌ {A = Option (List ℕ)} (Some held) (Some h) = ap (λ (s : Source). s.held) same ∙ is in
            let bytes_same : held ≡ h = cc in
            inl (record { opened = o; read = subst (λ k. program_in a.path k ≡ Ok o) bytes_same (subst (λ (s : Source). program_in s.path held ≡ Ok o) same e) });
      }

      program_unread : ReadsUntil files (held_at path held ∷ [])
      program_unread = record { as_held = held_one files path held there; once = record { first = held_at path held ∷ []; last = []; parts = refl; at_most_one = omega arith; once = found_once } }

      by_form : (r : Result Opened Fault) → program_in path held ≡ r
          → EndsWell files (lifted (with_source nothing_loaded path held) r >>= (λ o. load_file files roots most_libraries o (with_source nothing_loaded path held)))
      by_form (Ok o) e = reads_file most_libraries o (with_source nothing_loaded path held) (program_read o e)
      by_form (Err f) e = program_unread

    reads_program : (o : Option (List ℕ)) → at_path files path ≡ o → EndsWell files (program_from files roots path (read_of o file_limit))
    reads_program None e = nothing_read
    reads_program (Some held) e = by_length (nat_lt file_limit (length held))
      where
        by_length : (b : Bool) → EndsWell files (program_from files roots path (if b then longer else bytes held))
        by_length true = nothing_read
        by_length false = by_form held e (program_in path held) refl

    reads : EndsWell files (load files roots path)
    unfolding load
    reads = reads_program (at_path files path) refl

    pub reads_all : (program : Found) (s : Loading) → load files roots path ≡ Ok (program, s) → Reads files s.begun s.sources
    reads_all program s h = subst (λ (r : Loads (Found × Loading)). EndsWell files r) h reads

    pub reads_so_far : (s : Loading) (f : Fault) → load files roots path ≡ Err (s, f) → ReadsUntil files s.sources
    reads_so_far s f h = subst (λ (r : Loads (Found × Loading)). EndsWell files r) h reads
