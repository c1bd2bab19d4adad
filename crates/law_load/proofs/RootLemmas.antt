-- Each library stands below the first root that has its file.
use Rattle.std.proofs.Common.{◌≡◌, ℕ, zero, suc, Bool, true, false, List, [], ◌∷◌, ◌++◌, length, Result, Ok, Err, Option, Some, None, refl, sym, ap, subst, ◌∙◌, inl, inr}
use Rattle.std.specs.Prelude.{is_some, slice_get, nat_lt, nat_le, if◌then◌else◌}
use Rattle.base_data.specs.Datum.{PlainDatum}
use Rattle.base_data.specs.Gives.{◌>>=◌}
use Rattle.base_data.specs.Same.{same_library}
use Rattle.base_data.specs.declared.fault.Fault.{Fault}
use Rattle.base_data.specs.declared.fault.FaultKind.TheVariants as kind
use Rattle.base_data.specs.declared.library.LibName.{LibName}
use Rattle.load_file_names.specs.File.{file_of}
use Rattle.load_forms.specs.Form.{read_library}
use Rattle.load_forms.specs.Version.{version_fits}
use Rattle.load_forms.specs.declared.form.LibraryForm.{LibraryForm}
use Rattle.load_forms.specs.declared.set.Import.{Import}
use Rattle.load_import.specs.Table.{value_of}
use Rattle.load_import.specs.declared.set.ImportSet.{ImportSet}
use Rattle.base_outside.specs.Contents.{Paths, at_path, Reading, bytes, longer, absent, read_of}
use Rattle.read_reader.specs.Read.{data_of, file_nesting}
use Rattle.load_files.specs.Found.{nothing_loaded, no_needs, with_needs, with_source, with_sources, with_done, most_libraries, absent_at, found_of}
use Rattle.load_files.specs.Load.{Loads, Loader, lifted, file_limit, most, about, sought_at, look_for, opened, library_in, program_in, begun, opened_from, opened_with, open_file, known_of, settled, load_new, refer_to, refer, refer_each, load_with, load_file, program_from, load}
use Rattle.load_files.specs.Load as loading
use Rattle.load_files.specs.declared.found.Source.{Source}
use Rattle.load_files.specs.declared.found.Opened.{Opened}
use Rattle.load_files.specs.declared.found.Found.{Found}
use Rattle.load_files.specs.declared.found.Loading.{Loading}
use Rattle.load_files.specs.declared.search.Sought.{Sought}
use Rattle.load_files.specs.declared.search.Sought.TheVariants as sought
use Rattle.load_files.specs.declared.refer.Known.{Known}
use Rattle.load_files.specs.declared.refer.Known.TheVariants as known
use Rattle.law_load.specs.Roots.{IsFirst, StandsBelow, AllStandBelow}
use Rattle.law_load.proofs.RowLemmas.{at_cases}
use Rattle.law_load.proofs.OpenLemmas.{Ends, ends_on, ends_ok, library_named}

-- ---- one file

opened_path : (name : LibName) (path : List ℕ) (ds : List PlainDatum) (form : LibraryForm) (o : Opened) → opened name path ds form ≡ Ok o → path ≡ o.path
opened_path name path ds form o h = by (same_library form.name name) h
  where
    by : (b : Bool) → (if b then Ok (record { path = path; form = form; «data» = ds }) else Err (loading.differs form)) ≡ Ok o → path ≡ o.path
    by true h =
        let same : ◌≡◌ {A = Opened} (record { path = path; form = form; «data» = ds }) o = cc in
        ap (λ (x : Opened). x.path) same
    by false h = absurd (cc)

library_path : (name : LibName) (path held : List ℕ) (o : Opened) → library_in name path held ≡ Ok o → path ≡ o.path
unfolding library_in
library_path name path held o h = by_data (data_of path held file_nesting) h
  where
    by_form : (ds : List PlainDatum) (r : Result LibraryForm Fault) → (r >>= (λ form. opened name path ds form)) ≡ Ok o → path ≡ o.path
    by_form ds (Ok form) h = opened_path name path ds form o h
    by_form ds (Err f) h = absurd (cc)

    by_data : (r : Result (List PlainDatum) Fault) → (r >>= (λ ds. read_library path ds >>= (λ form. opened name path ds form))) ≡ Ok o → path ≡ o.path
    by_data (Ok ds) h = by_form ds (read_library path ds) h
    by_data (Err f) h = absurd (cc)

module _ (files : Paths) (max : ℕ) (file : List ℕ) where
  abbrev Finds : List (List ℕ) → Sought → Type 0
  Finds roots (sought.Bytes path held) = IsFirst files roots file path × (at_path files path ≡ Some held)
  Finds roots (sought.Longer path) = Unit {0}
  Finds roots sought.Nowhere = Unit {0}

  -- one more root, without the file
  finds_later : (root : List ℕ) (roots : List (List ℕ)) (x : Sought) → at_path files (root ++ file) ≡ None → Finds roots x → Finds (root ∷ roots) x
  finds_later root roots (sought.Longer path) e h = tt
  finds_later root roots sought.Nowhere e h = tt
  finds_later root roots (sought.Bytes path held) e h = (
    record { before = root ∷ h.0.before; root = h.0.root; after = h.0.after; parts = ap (λ rs. root ∷ rs) h.0.parts; below = h.0.below; absent = none },
    h.1,
  )
    where
      none : (i : ℕ) (other : List ℕ) → slice_get (root ∷ h.0.before) i ≡ Some other → at_path files (other ++ file) ≡ None
      none zero other at = let same : root ≡ other = cc in ap (λ r. at_path files (r ++ file)) (sym same) ∙ e
      none (suc i) other at = h.0.absent i other at

  finds : (sources : List Source) (roots : List (List ℕ)) → Finds roots (look_for files max file sources roots).1
  unfolding look_for
  finds sources [] = tt
  finds sources (root ∷ roots) = by (at_path files (root ++ file)) refl (finds (sources ++ absent_at (root ++ file) ∷ []) roots)
    where
      by_length : (held : List ℕ) (b : Bool) → at_path files (root ++ file) ≡ Some held
          → Finds (root ∷ roots) (sought_at (root ++ file) sources (look_for files max file (sources ++ absent_at (root ++ file) ∷ []) roots) (if b then longer else bytes held)).1
      by_length held true e = tt
      by_length held false e = (record { before = []; root = root; after = roots; parts = refl; below = refl; absent = λ i other at. absurd (cc) }, e)

      by : (o : Option (List ℕ)) → at_path files (root ++ file) ≡ o → Finds roots (look_for files max file (sources ++ absent_at (root ++ file) ∷ []) roots).1
          → Finds (root ∷ roots) (sought_at (root ++ file) sources (look_for files max file (sources ++ absent_at (root ++ file) ∷ []) roots) (read_of o max)).1
      by None e rest = finds_later root roots (look_for files max file (sources ++ absent_at (root ++ file) ∷ []) roots).1 e rest
      by (Some held) e rest = by_length held (nat_lt max (length held)) e

module _ (files : Paths) (roots : List (List ℕ)) where
  abbrev Below : Loading → Type 0
  Below s = AllStandBelow files roots s.done

  -- a file is opened
  abbrev IsOpenBelow : ImportSet → Opened × Loading → Type 0
  IsOpenBelow set o = Below o.1 × StandsBelow files roots (file_of set.library) o.0

  opens_sought : (set : ImportSet) (s : Loading) (x : Sought) (max : ℕ) → Below s → Finds files max (file_of set.library) roots x → Ends (IsOpenBelow set) Below (opened_from s set x)
  opens_sought set s sought.Nowhere max b h = b
  opens_sought set s (sought.Longer path) max b h = b
  opens_sought set s (sought.Bytes path held) max b h = by (library_in set.library path held) refl
    where
      by : (r : Result Opened Fault) → library_in set.library path held ≡ r → Ends (IsOpenBelow set) Below (lifted (with_source s path held) r >>= (λ o. begun (with_source s path held) (file_of set.library) o))
      by (Ok o) e =
          let named = library_named set.library path held o e in
          let same = library_path set.library path held o e in (
            b,
            record {
              named = ap file_of (sym named);
              first = subst (IsFirst files roots (file_of set.library)) same h.0;
              held = held;
              there = ap (at_path files) (sym same) ∙ h.1;
              read = ap (λ p. library_in o.form.name p held) (sym same) ∙ ap (λ n. library_in n path held) named ∙ e;
            },
          )
      by (Err f) e = b

  opens_below : (set : ImportSet) (s : Loading) → Below s → Ends (IsOpenBelow set) Below (open_file files roots set s)
  unfolding open_file
  opens_below set s b = by (nat_le most_libraries (length s.begun))
    where
      by : (t : Bool) → Ends (IsOpenBelow set) Below (if t then Err (s, loading.too_many set) else opened_with s set (look_for files (most s.bytes) (file_of set.library) s.sources roots))
      by true = b
      by false =
          opens_sought set (with_sources s (look_for files (most s.bytes) (file_of set.library) s.sources roots).0) (look_for files (most s.bytes) (file_of set.library) s.sources roots).1 (most s.bytes) b
          (finds files (most s.bytes) (file_of set.library) s.sources roots)

  -- a library is loaded
  done_below : (set : ImportSet) (s : Loading) (found : Found) → Below s → StandsBelow files roots (file_of set.library) found.opened → Below (with_done s (file_of set.library) found)
  done_below set s found b stands = by (is_some (value_of (file_of set.library) s.done))
    where
      same : (file : List ℕ) (library : Found) → ◌≡◌ {A = List ℕ × Found} (file_of set.library, found) (file, library) → StandsBelow files roots file library.opened
      same file library e = subst (λ (r : List ℕ × Found). StandsBelow files roots r.0 r.1.opened) e stands

      by : (t : Bool) → AllStandBelow files roots (if t then s.done else s.done ++ (file_of set.library, found) ∷ [])
      by true = b
      by false = λ place file library at. elim (at_cases s.done (file_of set.library, found) place (file, library) at) [ inl old ↦ b place file library old | inr new ↦ same file library new.1 ]

  settles_below : (set : ImportSet) (needs : List Bool) (found : Found) (s : Loading) → Below (with_done s (file_of set.library) found)
      → Ends (λ (n : List Bool × Loading). Below n.1) Below (settled set needs found s)
  unfolding settled
  settles_below set needs found s b = by (version_fits found.opened.form.version set.version)
    where
      by : (t : Bool) → Ends (λ (n : List Bool × Loading). Below n.1) Below
          (lifted (with_done s (file_of set.library) found) (if t then Ok (with_needs needs found, with_done s (file_of set.library) found) else Err (about kind.VersionRefused set)))
      by true = b
      by false = b

  -- ---- a file with its imports

  abbrev IsLoadedBelow : Opened → Found × Loading → Type 0
  IsLoadedBelow o l = Below l.1 × (l.0.opened ≡ o)

  abbrev LoadsBelow : Loader → Type 0
  LoadsBelow load = (o : Opened) (s : Loading) → Below s → Ends (IsLoadedBelow o) Below (load o s)

  abbrev InsideBelow : Option Loader → Type 0
  InsideBelow None = Unit {0}
  InsideBelow (Some load) = LoadsBelow load

  abbrev AreBelow : List Bool × Loading → Type 0
  AreBelow n = Below n.1

  loads_new_below : (inside : Option Loader) → InsideBelow inside → (needs : List Bool) (s : Loading) (set : ImportSet) → Below s → Ends AreBelow Below (load_new files roots inside needs s set)
  loads_new_below None well needs s set b = b
  loads_new_below (Some load) well needs s set b =
      ends_on (IsOpenBelow set) AreBelow Below (open_file files roots set s) (λ o. load o.0 o.1 >>= (λ l. settled set needs l.0 l.1)) (opens_below set s b)
      (λ o opening.
      ends_on (IsLoadedBelow o.0) AreBelow Below (load o.0 o.1) (λ l. settled set needs l.0 l.1) (well o.0 o.1 opening.0)
      (λ l loaded. settles_below set needs l.0 l.1 (done_below set l.1 l.0 loaded.0 (subst (StandsBelow files roots (file_of set.library)) (sym loaded.1) opening.1))))

  refers_below : (inside : Option Loader) → InsideBelow inside → (needs : List Bool) (s : Loading) (set : ImportSet) → Below s → Ends AreBelow Below (refer files roots inside needs s set)
  refers_below inside well needs s set b = by (known_of s needs set)
    where
      by : (r : Result Known Fault) → Ends AreBelow Below (refer_to files roots inside needs s set r)
      by (Ok known.Builtin) = b
      by (Ok known.Joined) = b
      by (Ok (known.Loaded more)) = b
      by (Ok known.New) = loads_new_below inside well needs s set b
      by (Err f) = b

  refers_each_below : (inside : Option Loader) → InsideBelow inside → (needs : List Bool) (s : Loading) (is : List Import) → Below s → Ends AreBelow Below (refer_each files roots inside needs s is)
  unfolding refer_each
  refers_each_below inside well needs s [] b = b
  refers_each_below inside well needs s (i ∷ is) b =
      ends_on AreBelow AreBelow Below (refer files roots inside needs s i.set) (λ n. refer_each files roots inside n.0 n.1 is) (refers_below inside well needs s i.set b)
      (λ n h. refers_each_below inside well n.0 n.1 is h)

  loads_with_below : (inside : Option Loader) → InsideBelow inside → LoadsBelow (load_with files roots inside)
  loads_with_below inside well o s b =
      ends_on AreBelow (IsLoadedBelow o) Below (refer_each files roots inside no_needs s o.form.imports) (λ n. Ok (found_of o n.0 n.1, n.1)) (refers_each_below inside well no_needs s o.form.imports b)
      (λ n h. (h, refl))

  loads_file_below : (room : ℕ) → LoadsBelow (load_file files roots room)
  unfolding load_file
  loads_file_below zero = loads_with_below None tt
  loads_file_below (suc room) = loads_with_below (Some (load_file files roots room)) (loads_file_below room)

  -- ---- the program

  none_below : Below nothing_loaded
  none_below place file library at = absurd (cc)

  abbrev IsWholeBelow : Found × Loading → Type 0
  IsWholeBelow l = Below l.1

  loads_program_below : (path : List ℕ) (r : Reading) → Ends IsWholeBelow Below (program_from files roots path r)
  loads_program_below path absent = none_below
  loads_program_below path longer = none_below
  loads_program_below path (bytes held) = by (program_in path held)
    where
      by : (r : Result Opened Fault) → Ends IsWholeBelow Below (lifted (with_source nothing_loaded path held) r >>= (λ o. load_file files roots most_libraries o (with_source nothing_loaded path held)))
      by (Ok o) =
          ends_ok (IsLoadedBelow o) IsWholeBelow Below (load_file files roots most_libraries o (with_source nothing_loaded path held)) (λ l h. h.0)
          (loads_file_below most_libraries o (with_source nothing_loaded path held) none_below)
      by (Err f) = none_below

  loads_below : (path : List ℕ) → Ends IsWholeBelow Below (load files roots path)
  unfolding load
  loads_below path = loads_program_below path (read_of (at_path files path) file_limit)

  pub stand_below : (path : List ℕ) (program : Found) (s : Loading) → load files roots path ≡ Ok (program, s) → AllStandBelow files roots s.done
  stand_below path program s h = subst (λ (r : Loads (Found × Loading)). Ends IsWholeBelow Below r) h (loads_below path)

  pub stand_below_until : (path : List ℕ) (s : Loading) (f : Fault) → load files roots path ≡ Err (s, f) → AllStandBelow files roots s.done
  stand_below_until path s f h = subst (λ (r : Loads (Found × Loading)). Ends IsWholeBelow Below r) h (loads_below path)
