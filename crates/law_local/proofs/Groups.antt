-- Each library that is loaded was read under the first root that has its file.
use Rattle.std.proofs.Common.{◌≡◌, ℕ, zero, suc, Bool, true, false, List, [], ◌∷◌, ◌++◌, length, Result, Ok, Err, Option, Some, None, refl, sym, ap, subst, ◌∙◌, inl, inr}
use Rattle.std.specs.Prelude.{map, is_some, nat_le, nat_lt, if◌then◌else◌}
use Rattle.base_data.specs.Datum.{PlainDatum}
use Rattle.base_data.specs.Gives.{◌>>=◌}
use Rattle.base_data.specs.Same.{same_library}
use Rattle.base_data.specs.declared.fault.Fault.{Fault}
use Rattle.base_data.specs.declared.fault.FaultKind.TheVariants as kind
use Rattle.base_data.specs.declared.library.LibName.{LibName}
use Rattle.load_file_names.specs.File.{file_of}
use Rattle.load_forms.specs.Form.{read_library}
use Rattle.load_forms.specs.Version.{version_fits}
use Rattle.load_forms.specs.declared.form.LibraryForm.{LibraryForm}
use Rattle.load_forms.specs.declared.set.Import.{Import}
use Rattle.load_import.specs.Table.{value_of, put_first}
use Rattle.load_import.specs.declared.set.ImportSet.{ImportSet}
use Rattle.base_outside.specs.Contents.{Paths, at_path, Reading, bytes, longer, absent, read_of}
use Rattle.read_reader.specs.Read.{data_of}
use Rattle.load_files.specs.Found.{nothing_loaded, no_needs, most_libraries, absent_at, held_at, with_needs, with_source, with_sources, with_done, found_of}
use Rattle.load_files.specs.Load.{Loads, Loader, lifted, about, too_many, most, file_limit, sought_at, look_for, opened, library_in, program_in, begun, opened_from, opened_with, open_file, known_of, settled, load_new, refer_to, refer, refer_each, load_with, load_file, program_from, load}
use Rattle.load_files.specs.Load as loading
use Rattle.load_files.specs.declared.found.Source.{Source}
use Rattle.load_files.specs.declared.found.Opened.{Opened}
use Rattle.load_files.specs.declared.found.Found.{Found}
use Rattle.load_files.specs.declared.found.Loading.{Loading}
use Rattle.load_files.specs.declared.refer.Known.{Known}
use Rattle.load_files.specs.declared.refer.Known.TheVariants as known
use Rattle.load_files.specs.declared.search.Sought.{Sought}
use Rattle.load_files.specs.declared.search.Sought.TheVariants as sought
use Rattle.law_load.specs.Laws.{Libraries, IsAt}
use Rattle.law_load.specs.Sources.{AreAsHeld}
use Rattle.law_local.proofs.LaidOut.{AllAsHeld}
use Rattle.law_load.proofs.OpenLemmas.{Ends, ends_on, ends_ok, library_named}
use Rattle.law_load.proofs.RowLemmas.{at_cases}
use Rattle.law_local.specs.Entry.{IsGroup}
use Rattle.law_local.specs.Local.{HaveGroups, or_further, group_under, group_of}
use Rattle.law_local.specs.Recorded.{library_at}

-- ---- the bytes of a library give it, whatever name is asked for

opened_again : (name : LibName) (path : List ℕ) (ds : List PlainDatum) (form : LibraryForm) (o : Opened) → opened name path ds form ≡ Ok o → ◌≡◌ {A = Opened} (record { path = path; form = form; «data» = ds }) o
opened_again name path ds form o h = by (same_library form.name name) h
  where
    by : (b : Bool) → (if b then Ok (record { path = path; form = form; «data» = ds }) else Err (loading.differs form)) ≡ Ok o → ◌≡◌ {A = Opened} (record { path = path; form = form; «data» = ds }) o
    by true h = cc
    by false h = absurd (cc)

module _ (name : LibName) (path held : List ℕ) (o : Opened) where
  read_again : library_in name path held ≡ Ok o → (library_at path held ≡ Ok o) × (o.path ≡ path)
  unfolding library_in library_at
  read_again h = by_data (data_of path held 500) h
    where
      by_form : (ds : List PlainDatum) (r : Result LibraryForm Fault) → (r >>= (λ form. opened name path ds form)) ≡ Ok o
          → ((r >>= (λ form. Ok (record { path = path; form = form; «data» = ds }))) ≡ Ok o) × (o.path ≡ path)
      by_form ds (Ok form) h =
          let e = opened_again name path ds form o h in
          (ap (λ (x : Opened). Ok x) e, sym (ap (λ (x : Opened). x.path) e))
      by_form ds (Err f) h = absurd (cc)

      by_data : (r : Result (List PlainDatum) Fault) → (r >>= (λ ds. read_library path ds >>= (λ form. opened name path ds form))) ≡ Ok o
          → ((r >>= (λ ds. read_library path ds >>= (λ form. Ok (record { path = path; form = form; «data» = ds })))) ≡ Ok o) × (o.path ≡ path)
      by_data (Ok ds) h = by_form ds (read_library path ds) h
      by_data (Err f) h = absurd (cc)

-- ---- looking for a file

record Lies (files : Paths) (file : List ℕ) (roots : List (List ℕ)) (path held : List ℕ) : Type 0 where
  pub before : List (List ℕ)
  pub root : List ℕ
  pub after : List (List ℕ)
  pub split : roots ≡ before ++ root ∷ after
  pub is : path ≡ root ++ file
  pub parts : group_under files file roots ≡ map (λ (r : List ℕ). absent_at (r ++ file)) before ++ held_at path held ∷ []

abbrev LiesIn : Paths → List ℕ → List (List ℕ) → Sought → Type 0
LiesIn files file roots sought.Nowhere = Unit {0}
LiesIn files file roots (sought.Longer path) = Unit {0}
LiesIn files file roots (sought.Bytes path held) = Lies files file roots path held

module _ (files : Paths) (max : ℕ) (file : List ℕ) where
  further : (root : List ℕ) (roots : List (List ℕ)) → at_path files (root ++ file) ≡ None → (x : Sought) → LiesIn files file roots x → LiesIn files file (root ∷ roots) x
  unfolding group_under
  further root roots e sought.Nowhere h = tt
  further root roots e (sought.Longer path) h = tt
  further root roots e (sought.Bytes path held) h = record {
    before = root ∷ h.before;
    root = h.root;
    after = h.after;
    split = ap (λ (rs : List (List ℕ)). root ∷ rs) h.split;
    is = h.is;
    parts = ap (λ o. or_further (root ++ file) o (group_under files file roots)) e ∙ ap (λ (ss : List Source). absent_at (root ++ file) ∷ ss) h.parts;
  }

  here : (root : List ℕ) (roots : List (List ℕ)) (held : List ℕ) → at_path files (root ++ file) ≡ Some held → Lies files file (root ∷ roots) (root ++ file) held
  unfolding group_under
  here root roots held e = record {
    before = [];
    root = root;
    after = roots;
    split = refl;
    is = refl;
    parts = ap (λ o. or_further (root ++ file) o (group_under files file roots)) e;
  }

  lies : (sources : List Source) (roots : List (List ℕ)) → LiesIn files file roots (look_for files max file sources roots).1
  unfolding look_for
  lies sources [] = tt
  lies sources (root ∷ roots) = by (at_path files (root ++ file)) refl (lies (sources ++ absent_at (root ++ file) ∷ []) roots)
    where
      by_length : (held : List ℕ) (b : Bool) → at_path files (root ++ file) ≡ Some held
          → LiesIn files file (root ∷ roots) (sought_at (root ++ file) sources (look_for files max file (sources ++ absent_at (root ++ file) ∷ []) roots) (if b then longer else bytes held)).1
      by_length held true e = tt
      by_length held false e = here root roots held e

      by : (o : Option (List ℕ)) → at_path files (root ++ file) ≡ o → LiesIn files file roots (look_for files max file (sources ++ absent_at (root ++ file) ∷ []) roots).1
          → LiesIn files file (root ∷ roots) (sought_at (root ++ file) sources (look_for files max file (sources ++ absent_at (root ++ file) ∷ []) roots) (read_of o max)).1
      by None e h = further root roots e (look_for files max file (sources ++ absent_at (root ++ file) ∷ []) roots).1 h
      by (Some held) e h = by_length held (nat_lt max (length held)) e

-- ---- loading

module _ (files : Paths) (roots : List (List ℕ)) where
  abbrev IsRead : Opened → Type 0
  IsRead o = IsGroup roots (group_under files (file_of o.form.name) roots) o

  abbrev AllRead : Libraries → Type 0
  AllRead loaded = (place : ℕ) (file : List ℕ) (f : Found) → IsAt loaded place file f → IsRead f.opened

  abbrev IsReadAs : Opened → LibName → Type 0
  IsReadAs o n = IsGroup roots (group_under files (file_of n) roots) o

  is_read : (name : LibName) (path held : List ℕ) (o : Opened) → Lies files (file_of name) roots path held → library_in name path held ≡ Ok o → IsRead o
  is_read name path held o l h = subst (IsReadAs o) (sym named) (record {
    before = l.before;
    root = l.root;
    after = l.after;
    split = l.split;
    bytes = held;
    path = r.1 ∙ l.is ∙ ap (λ (n : LibName). l.root ++ file_of n) (sym named);
    parts = l.parts
        ∙ ap (λ (n : LibName). map (λ (x : List ℕ). absent_at (x ++ file_of n)) l.before ++ held_at path held ∷ []) (sym named)
        ∙ ap (λ (p : List ℕ). map (λ (x : List ℕ). absent_at (x ++ file_of o.form.name)) l.before ++ held_at p held ∷ []) (sym r.1);
    read = ap (λ (p : List ℕ). library_at p held) r.1 ∙ r.0;
  })
    where
      r : (library_at path held ≡ Ok o) × (o.path ≡ path)
      r = read_again name path held o h

      named : o.form.name ≡ name
      named = library_named name path held o h

  all_more : (loaded : Libraries) (file : List ℕ) (f : Found) → AllRead loaded → IsRead f.opened → AllRead (put_first loaded (file, f))
  all_more loaded file f all is = by (is_some (value_of file loaded))
    where
      by : (b : Bool) → AllRead (if b then loaded else loaded ++ (file, f) ∷ [])
      by true = all
      by false = λ place name l at. elim (at_cases loaded (file, f) place (name, l) at) [
        | inl old ↦ all place name l old
        | inr new ↦ subst (λ (r : List ℕ × Found). IsRead r.1.opened) new.1 is
      ]

  abbrev Keeps : {A : Type 0} → Loads (A × Loading) → Type 0
  Keeps r = Ends (λ x. AllRead x.1.done) (λ s. AllRead s.done) r

  -- what is opened was read
  abbrev OpensRead : Loads (Opened × Loading) → Type 0
  OpensRead r = Ends (λ x. IsRead x.0 × AllRead x.1.done) (λ s. AllRead s.done) r

  module _ (s : Loading) (set : ImportSet) (all : AllRead s.done) where
    from_sought : (sources : List Source) (x : Sought) → LiesIn files (file_of set.library) roots x → OpensRead (opened_from (with_sources s sources) set x)
    from_sought sources sought.Nowhere l = all
    from_sought sources (sought.Longer path) l = all
    from_sought sources (sought.Bytes path held) l = by (library_in set.library path held) refl
      where
        by : (r : Result Opened Fault) → library_in set.library path held ≡ r
            → OpensRead (lifted (with_source (with_sources s sources) path held) r >>= (λ o. begun (with_source (with_sources s sources) path held) (file_of set.library) o))
        by (Ok o) e = (is_read set.library path held o l e, all)
        by (Err f) e = all

    opens_read : OpensRead (open_file files roots set s)
    unfolding open_file
    opens_read = by (nat_le most_libraries (length s.begun))
      where
        by : (b : Bool) → OpensRead (if b then Err (s, too_many set) else opened_with s set (look_for files (most s.bytes) (file_of set.library) s.sources roots))
        by true = all
        by false =
            from_sought (look_for files (most s.bytes) (file_of set.library) s.sources roots).0 (look_for files (most s.bytes) (file_of set.library) s.sources roots).1
            (lies files (most s.bytes) (file_of set.library) s.sources roots)

  abbrev LoadsRead : Loader → Type 0
  LoadsRead load = (o : Opened) (s : Loading) → AllRead s.done → Ends (λ x. (x.0.opened ≡ o) × AllRead x.1.done) (λ t. AllRead t.done) (load o s)

  abbrev InsideRead : Option Loader → Type 0
  InsideRead None = Unit {0}
  InsideRead (Some load) = LoadsRead load

  settles_read : (set : ImportSet) (needs : List Bool) (found : Found) (s : Loading) → IsRead found.opened → AllRead s.done → Keeps (settled set needs found s)
  unfolding settled
  settles_read set needs found s is all = by (version_fits found.opened.form.version set.version)
    where
      by : (b : Bool) → Keeps (lifted (with_done s (file_of set.library) found) (if b then Ok (with_needs needs found, with_done s (file_of set.library) found) else Err (about kind.VersionRefused set)))
      by true = all_more s.done (file_of set.library) found all is
      by false = all_more s.done (file_of set.library) found all is

  new_read : (inside : Option Loader) → InsideRead inside → (needs : List Bool) (s : Loading) (set : ImportSet) → AllRead s.done → Keeps (load_new files roots inside needs s set)
  new_read None well needs s set all = all
  new_read (Some load) well needs s set all =
      ends_on (λ (o : Opened × Loading). IsRead o.0 × AllRead o.1.done) (λ (n : List Bool × Loading). AllRead n.1.done) (λ t. AllRead t.done)
      (open_file files roots set s) (λ o. load o.0 o.1 >>= (λ l. settled set needs l.0 l.1)) (opens_read s set all)
      (λ o q. ends_on (λ (l : Found × Loading). (l.0.opened ≡ o.0) × AllRead l.1.done) (λ (n : List Bool × Loading). AllRead n.1.done) (λ t. AllRead t.done)
      (load o.0 o.1) (λ l. settled set needs l.0 l.1) (well o.0 o.1 q.1) (λ l k. settles_read set needs l.0 l.1 (subst (λ (x : Opened). IsRead x) (sym k.0) q.0) k.1))

  refer_read : (inside : Option Loader) → InsideRead inside → (needs : List Bool) (s : Loading) (set : ImportSet) → AllRead s.done → Keeps (refer files roots inside needs s set)
  refer_read inside well needs s set all = by (known_of s needs set)
    where
      by : (x : Result Known Fault) → Keeps (refer_to files roots inside needs s set x)
      by (Ok known.Builtin) = all
      by (Ok known.Joined) = all
      by (Ok (known.Loaded more)) = all
      by (Ok known.New) = new_read inside well needs s set all
      by (Err f) = all

  each_read : (inside : Option Loader) → InsideRead inside → (needs : List Bool) (s : Loading) (is : List Import) → AllRead s.done → Keeps (refer_each files roots inside needs s is)
  unfolding refer_each
  each_read inside well needs s [] all = all
  each_read inside well needs s (i ∷ is) all =
      ends_on (λ (n : List Bool × Loading). AllRead n.1.done) (λ (n : List Bool × Loading). AllRead n.1.done) (λ t. AllRead t.done)
      (refer files roots inside needs s i.set) (λ n. refer_each files roots inside n.0 n.1 is) (refer_read inside well needs s i.set all) (λ n q. each_read inside well n.0 n.1 is q)

  with_read : (inside : Option Loader) → InsideRead inside → LoadsRead (load_with files roots inside)
  with_read inside well o s all =
      ends_on (λ (n : List Bool × Loading). AllRead n.1.done) (λ (l : Found × Loading). (l.0.opened ≡ o) × AllRead l.1.done) (λ t. AllRead t.done)
      (refer_each files roots inside no_needs s o.form.imports) (λ n. Ok (found_of o n.0 n.1, n.1)) (each_read inside well no_needs s o.form.imports all) (λ n q. (refl, q))

  file_read : (room : ℕ) → LoadsRead (load_file files roots room)
  unfolding load_file
  file_read zero = with_read None tt
  file_read (suc room) = with_read (Some (load_file files roots room)) (file_read room)

  -- ---- the program

  none_read : AllRead []
  none_read place file f at = absurd (cc)

  module _ (path : List ℕ) where
    program_read : (r : Reading) → Keeps (program_from files roots path r)
    program_read absent = none_read
    program_read longer = none_read
    program_read (bytes held) = by (program_in path held)
      where
        by : (r : Result Opened Fault) → Keeps (lifted (with_source nothing_loaded path held) r >>= (λ o. load_file files roots most_libraries o (with_source nothing_loaded path held)))
        by (Ok o) =
            ends_ok (λ (l : Found × Loading). (l.0.opened ≡ o) × AllRead l.1.done) (λ (l : Found × Loading). AllRead l.1.done) (λ t. AllRead t.done)
            (load_file files roots most_libraries o (with_source nothing_loaded path held)) (λ l k. k.1) (file_read most_libraries o (with_source nothing_loaded path held) none_read)
        by (Err f) = none_read

    reads : Keeps (load files roots path)
    unfolding load
    reads = program_read (read_of (at_path files path) file_limit)

    pub groups_all : (program : Found) (s : Loading) → load files roots path ≡ Ok (program, s) → HaveGroups roots (group_of files roots) s.done
    groups_all program s h = subst (λ (r : Loads (Found × Loading)). Keeps r) h reads

    pub groups_until : (s : Loading) (f : Fault) → load files roots path ≡ Err (s, f) → HaveGroups roots (group_of files roots) s.done
    groups_until s f h = subst (λ (r : Loads (Found × Loading)). Keeps r) h reads

  -- ---- what the files hold

  held_under : (file : List ℕ) (rs : List (List ℕ)) → AreAsHeld files (group_under files file rs)
  unfolding group_under
  held_under file [] = λ i a h. absurd (cc)
  held_under file (root ∷ rs) = by (at_path files (root ++ file)) refl (held_under file rs)
    where
      more : (x : Source) → at_path files x.path ≡ x.held → (rest : List Source) → AreAsHeld files rest → AreAsHeld files (x ∷ rest)
      more x e rest all zero a h = let same : x ≡ a = cc in subst (λ (y : Source). at_path files y.path ≡ y.held) same e
      more x e rest all (suc i) a h = all i a h

      by : (o : Option (List ℕ)) → at_path files (root ++ file) ≡ o → AreAsHeld files (group_under files file rs) → AreAsHeld files (or_further (root ++ file) o (group_under files file rs))
      by None e rest = more (absent_at (root ++ file)) e (group_under files file rs) rest
      by (Some held) e rest = more (held_at (root ++ file) held) e [] (λ i a h. absurd (cc))

  pub all_as_held : (loaded : Libraries) → AllAsHeld files (group_of files roots) loaded
  all_as_held loaded = record { held = λ place file f at. held_under (file_of f.opened.form.name) roots }
