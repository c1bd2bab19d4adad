-- The sources of a run: that of its program, and then those of one library after another, in the order in which they were begun.
use Rattle.std.proofs.Common.{◌≡◌, ℕ, zero, suc, Bool, true, false, List, [], ◌∷◌, ◌++◌, length, Result, Ok, Err, Option, Some, None, refl, sym, ap, subst, ◌∙◌, append_assoc, append-nil, inl, inr}
use Rattle.std.specs.Prelude.{◌⊎◌, map, nat_le, nat_lt, if◌then◌else◌}
use Rattle.base_data.specs.Gives.{◌>>=◌}
use Rattle.base_data.specs.declared.fault.Fault.{Fault}
use Rattle.base_data.specs.declared.fault.FaultKind.TheVariants as kind
use Rattle.load_file_names.specs.File.{file_of}
use Rattle.load_forms.specs.Version.{version_fits}
use Rattle.load_forms.specs.declared.set.Import.{Import}
use Rattle.load_import.specs.Table.{put_first}
use Rattle.load_import.specs.declared.set.ImportSet.{ImportSet}
use Rattle.base_outside.specs.Contents.{Paths, at_path, Reading, bytes, longer, absent, read_of}
use Rattle.load_files.specs.Found.{nothing_loaded, no_needs, most_libraries, absent_at, held_at, with_needs, with_source, with_sources, with_done, found_of}
use Rattle.load_files.specs.Load.{Loads, Loader, lifted, about, too_many, most, file_limit, sought_at, look_for, library_in, program_in, begun, opened_with, open_file, known_of, settled, load_new, refer_to, refer, refer_each, load_with, load_file, program_from, load}
use Rattle.load_files.specs.declared.found.Source.{Source}
use Rattle.load_files.specs.declared.found.Opened.{Opened}
use Rattle.load_files.specs.declared.found.Found.{Found}
use Rattle.load_files.specs.declared.found.Loading.{Loading}
use Rattle.load_files.specs.declared.refer.Known.{Known}
use Rattle.load_files.specs.declared.refer.Known.TheVariants as known
use Rattle.load_files.specs.declared.search.Sought.{Sought}
use Rattle.load_files.specs.declared.search.Sought.TheVariants as sought
use Rattle.law_load.proofs.OpenLemmas.{Ends, ends_on}
use Rattle.law_load.proofs.KnownLemmas.{New, Is, known_is}
use Rattle.law_load.proofs.RowLemmas.{IsNotIn, put_new}
use Rattle.law_local.specs.Local.{or_further, group_under}

-- the files that were begun
abbrev pub Begun : Type 0
Begun = List (List ℕ × Unit {0})

-- paths at which nothing stood, and then one with bytes
pub record IsWhole (ss : List Source) : Type 0 where
  pub before : List (List ℕ)
  pub path : List ℕ
  pub held : List ℕ
  pub parts : ss ≡ map absent_at before ++ held_at path held ∷ []

module _ (files : Paths) (roots : List (List ℕ)) where
  abbrev pub group : List ℕ → List Source
  group file = group_under files file roots

  abbrev pub groups : Begun → List Source
  groups [] = []
  groups (row ∷ rows) = group row.0 ++ groups rows

  abbrev pub AllWhole : Begun → Type 0
  AllWhole [] = Unit {0}
  AllWhole (row ∷ rows) = IsWhole (group row.0) × AllWhole rows

  groups_more : (rows : Begun) (row : List ℕ × Unit {0}) → groups (rows ++ row ∷ []) ≡ groups rows ++ group row.0
  groups_more [] row = append-nil (group row.0)
  groups_more (r ∷ rows) row = ap (λ ss. group r.0 ++ ss) (groups_more rows row) ∙ sym (append_assoc (group r.0) (groups rows) (group row.0))

  whole_more : (rows : Begun) (row : List ℕ × Unit {0}) → AllWhole rows → IsWhole (group row.0) → AllWhole (rows ++ row ∷ [])
  whole_more [] row all one = (one, tt)
  whole_more (r ∷ rows) row all one = (all.0, whole_more rows row all.1 one)

  pub record Laid (s : Loading) : Type 0 where
    pub path : List ℕ
    pub held : List ℕ
    pub parts : s.sources ≡ held_at path held ∷ groups s.begun
    pub whole : AllWhole s.begun

  -- where loading stopped, more may have been read
  pub record LaidSoFar (s : Loading) : Type 0 where
    pub path : List ℕ
    pub held : List ℕ
    pub more : List Source
    pub parts : s.sources ≡ held_at path held ∷ (groups s.begun ++ more)
    pub whole : AllWhole s.begun

  -- or nothing was begun
  abbrev pub LaidUntil : Loading → Type 0
  LaidUntil s = (s.begun ≡ []) ⊎ LaidSoFar s

  so_far : (s : Loading) → Laid s → LaidUntil s
  so_far s l = inr (record { path = l.path; held = l.held; more = []; parts = l.parts ∙ ap (λ ss. held_at l.path l.held ∷ ss) (sym (append-nil (groups s.begun))); whole = l.whole })

  -- ---- looking for a file

  record Looks (file : List ℕ) (rs : List (List ℕ)) (sources : List Source) (path held : List ℕ) (read : List Source) : Type 0 where
    pub all : read ++ held_at path held ∷ [] ≡ sources ++ group_under files file rs
    pub whole : IsWhole (group_under files file rs)

  abbrev Looked : List ℕ → List (List ℕ) → List Source → List Source × Sought → Type 0
  Looked file rs sources (read, sought.Nowhere) = (more : List Source) × (read ≡ sources ++ more)
  Looked file rs sources (read, sought.Longer path) = (more : List Source) × (read ≡ sources ++ more)
  Looked file rs sources (read, sought.Bytes path held) = Looks file rs sources path held read

  module _ (max : ℕ) (file : List ℕ) where
    further : (root : List ℕ) (rs : List (List ℕ)) (sources : List Source) → at_path files (root ++ file) ≡ None → (x : List Source × Sought)
        → Looked file rs (sources ++ absent_at (root ++ file) ∷ []) x → Looked file (root ∷ rs) sources x
    unfolding group_under
    further root rs sources none (read, sought.Nowhere) l = (absent_at (root ++ file) ∷ l.0, l.1 ∙ append_assoc sources (absent_at (root ++ file) ∷ []) l.0)
    further root rs sources none (read, sought.Longer path) l = (absent_at (root ++ file) ∷ l.0, l.1 ∙ append_assoc sources (absent_at (root ++ file) ∷ []) l.0)
    further root rs sources none (read, sought.Bytes path held) l =
        let here : or_further (root ++ file) (at_path files (root ++ file)) (group_under files file rs) ≡ absent_at (root ++ file) ∷ group_under files file rs = ap (λ o. or_further (root ++ file) o (group_under files file rs)) none in
        record {
          all = l.all ∙ append_assoc sources (absent_at (root ++ file) ∷ []) (group_under files file rs) ∙ ap (λ ss. sources ++ ss) (sym here);
          whole = record { before = (root ++ file) ∷ l.whole.before; path = l.whole.path; held = l.whole.held; parts = here ∙ ap (λ ss. absent_at (root ++ file) ∷ ss) l.whole.parts };
        }

    found : (root : List ℕ) (rs : List (List ℕ)) (sources : List Source) (held : List ℕ) → at_path files (root ++ file) ≡ Some held → Looks file (root ∷ rs) sources (root ++ file) held sources
    unfolding group_under
    found root rs sources held e =
        let here : or_further (root ++ file) (at_path files (root ++ file)) (group_under files file rs) ≡ held_at (root ++ file) held ∷ [] = ap (λ o. or_further (root ++ file) o (group_under files file rs)) e in
        record {
          all = ap (λ ss. sources ++ ss) (sym here);
          whole = record { before = []; path = root ++ file; held = held; parts = here };
        }

    looks : (sources : List Source) (rs : List (List ℕ)) → Looked file rs sources (look_for files max file sources rs)
    unfolding look_for
    looks sources [] = ([], sym (append-nil sources))
    looks sources (root ∷ rs) = by (at_path files (root ++ file)) refl (looks (sources ++ absent_at (root ++ file) ∷ []) rs)
      where
        by_length : (held : List ℕ) (b : Bool) → at_path files (root ++ file) ≡ Some held
            → Looked file (root ∷ rs) sources (sought_at (root ++ file) sources (look_for files max file (sources ++ absent_at (root ++ file) ∷ []) rs) (if b then longer else bytes held))
        by_length held true e = ([], sym (append-nil sources))
        by_length held false e = found root rs sources held e

        by : (o : Option (List ℕ)) → at_path files (root ++ file) ≡ o → Looked file rs (sources ++ absent_at (root ++ file) ∷ []) (look_for files max file (sources ++ absent_at (root ++ file) ∷ []) rs)
            → Looked file (root ∷ rs) sources (sought_at (root ++ file) sources (look_for files max file (sources ++ absent_at (root ++ file) ∷ []) rs) (read_of o max))
        by None e l = further root rs sources e (look_for files max file (sources ++ absent_at (root ++ file) ∷ []) rs) l
        by (Some held) e l = by_length held (nat_lt max (length held)) e

  -- ---- opening a file

  abbrev EndsLaid : {A : Type 0} → Loads (A × Loading) → Type 0
  EndsLaid r = Ends (λ x. Laid x.1) LaidUntil r

  ends_laid : {A B : Type 0} (x : Loads (A × Loading)) (f : A × Loading → Loads (B × Loading)) → EndsLaid x → ((a : A × Loading) → Laid a.1 → EndsLaid (f a)) → EndsLaid (x >>= f)
  ends_laid {A} {B} x f h k = ends_on (λ (a : A × Loading). Laid a.1) (λ (b : B × Loading). Laid b.1) LaidUntil x f h k

  module _ (s : Loading) (set : ImportSet) (l : Laid s) (new : IsNotIn s.begun (file_of set.library)) where
    -- what was read after that was laid out
    stopped : (read more : List Source) (t : Loading) → t.begun ≡ s.begun → t.sources ≡ read → read ≡ s.sources ++ more → LaidUntil t
    stopped read more t begun is so = inr (record {
      path = l.path;
      held = l.held;
      more = more;
      parts = is ∙ so ∙ ap (λ ss. ss ++ more) l.parts ∙ ap (λ b. held_at l.path l.held ∷ (groups b ++ more)) (sym begun);
      whole = subst AllWhole (sym begun) l.whole;
    })

    from_sought : (x : List Source × Sought) → Looked (file_of set.library) roots s.sources x → EndsLaid (opened_with s set x)
    from_sought (read, sought.Nowhere) k = stopped read k.0 (with_sources s read) refl refl k.1
    from_sought (read, sought.Longer path) k = stopped read k.0 (with_sources s read) refl refl k.1
    from_sought (read, sought.Bytes path held) k = by (library_in set.library path held)
      where
        all : read ++ held_at path held ∷ [] ≡ held_at l.path l.held ∷ (groups s.begun ++ group (file_of set.library))
        all = k.all ∙ ap (λ ss. ss ++ group (file_of set.library)) l.parts

        with_row : put_first s.begun (file_of set.library, tt) ≡ s.begun ++ (file_of set.library, tt) ∷ []
        with_row = put_new s.begun (file_of set.library) tt new

        by : (r : Result Opened Fault) → EndsLaid (lifted (with_source (with_sources s read) path held) r >>= (λ o. begun (with_source (with_sources s read) path held) (file_of set.library) o))
        by (Ok o) = record {
          path = l.path;
          held = l.held;
          parts = all ∙ ap (λ ss. held_at l.path l.held ∷ ss) (sym (groups_more s.begun (file_of set.library, tt)) ∙ ap groups (sym with_row));
          whole = subst AllWhole (sym with_row) (whole_more s.begun (file_of set.library, tt) l.whole k.whole);
        }
        by (Err f) = inr (record { path = l.path; held = l.held; more = group (file_of set.library); parts = all; whole = l.whole })

    opens_laid : EndsLaid (open_file files roots set s)
    unfolding open_file
    opens_laid = by (nat_le most_libraries (length s.begun))
      where
        by : (b : Bool) → EndsLaid (if b then Err (s, too_many set) else opened_with s set (look_for files (most s.bytes) (file_of set.library) s.sources roots))
        by true = so_far s l
        by false = from_sought (look_for files (most s.bytes) (file_of set.library) s.sources roots) (looks (most s.bytes) (file_of set.library) s.sources roots)

  -- ---- loading

  abbrev LoadsLaid : Loader → Type 0
  LoadsLaid load = (o : Opened) (s : Loading) → Laid s → EndsLaid (load o s)

  abbrev InsideLaid : Option Loader → Type 0
  InsideLaid None = Unit {0}
  InsideLaid (Some load) = LoadsLaid load

  settles_laid : (set : ImportSet) (needs : List Bool) (found : Found) (s : Loading) → Laid s → EndsLaid (settled set needs found s)
  unfolding settled
  settles_laid set needs found s l = by (version_fits found.opened.form.version set.version)
    where
      same : Laid (with_done s (file_of set.library) found)
      same = record { path = l.path; held = l.held; parts = l.parts; whole = l.whole }

      by : (b : Bool) → EndsLaid (lifted (with_done s (file_of set.library) found) (if b then Ok (with_needs needs found, with_done s (file_of set.library) found) else Err (about kind.VersionRefused set)))
      by true = same
      by false = so_far (with_done s (file_of set.library) found) same

  new_laid : (inside : Option Loader) → InsideLaid inside → (needs : List Bool) (s : Loading) (set : ImportSet) → Laid s → New s set → EndsLaid (load_new files roots inside needs s set)
  new_laid None well needs s set l new = so_far s l
  new_laid (Some load) well needs s set l new =
      ends_laid (open_file files roots set s) (λ o. load o.0 o.1 >>= (λ f. settled set needs f.0 f.1)) (opens_laid s set l new.not_begun)
      (λ o q. ends_laid (load o.0 o.1) (λ f. settled set needs f.0 f.1) (well o.0 o.1 q) (λ f k. settles_laid set needs f.0 f.1 k))

  refer_laid : (inside : Option Loader) → InsideLaid inside → (needs : List Bool) (s : Loading) (set : ImportSet) → Laid s → EndsLaid (refer files roots inside needs s set)
  refer_laid inside well needs s set l = by (known_of s needs set) (λ k h. known_is s needs set k h)
    where
      by_known : (k : Known) → Is s needs set k → EndsLaid (refer_to files roots inside needs s set (Ok k))
      by_known known.Builtin h = l
      by_known known.Joined h = l
      by_known (known.Loaded more) h = l
      by_known known.New h = new_laid inside well needs s set l h

      by : (x : Result Known Fault) → ((k : Known) → x ≡ Ok k → Is s needs set k) → EndsLaid (refer_to files roots inside needs s set x)
      by (Ok k) h = by_known k (h k refl)
      by (Err f) h = so_far s l

  each_laid : (inside : Option Loader) → InsideLaid inside → (needs : List Bool) (s : Loading) (is : List Import) → Laid s → EndsLaid (refer_each files roots inside needs s is)
  unfolding refer_each
  each_laid inside well needs s [] l = l
  each_laid inside well needs s (i ∷ is) l =
      ends_laid (refer files roots inside needs s i.set) (λ n. refer_each files roots inside n.0 n.1 is) (refer_laid inside well needs s i.set l) (λ n q. each_laid inside well n.0 n.1 is q)

  with_laid : (inside : Option Loader) → InsideLaid inside → LoadsLaid (load_with files roots inside)
  with_laid inside well o s l =
      ends_laid (refer_each files roots inside no_needs s o.form.imports) (λ n. Ok (found_of o n.0 n.1, n.1)) (each_laid inside well no_needs s o.form.imports l) (λ n q. q)

  file_laid : (room : ℕ) → LoadsLaid (load_file files roots room)
  unfolding load_file
  file_laid zero = with_laid None tt
  file_laid (suc room) = with_laid (Some (load_file files roots room)) (file_laid room)

  -- ---- the program

  module _ (path : List ℕ) where
    program_laid : (r : Reading) → EndsLaid (program_from files roots path r)
    program_laid absent = inl refl
    program_laid longer = inl refl
    program_laid (bytes held) = by (program_in path held)
      where
        alone : Laid (with_source nothing_loaded path held)
        alone = record { path = path; held = held; parts = refl; whole = tt }

        by : (r : Result Opened Fault) → EndsLaid (lifted (with_source nothing_loaded path held) r >>= (λ o. load_file files roots most_libraries o (with_source nothing_loaded path held)))
        by (Ok o) = file_laid most_libraries o (with_source nothing_loaded path held) alone
        by (Err f) = inl refl

    laid : EndsLaid (load files roots path)
    unfolding load
    laid = program_laid (read_of (at_path files path) file_limit)

    pub laid_all : (program : Found) (s : Loading) → load files roots path ≡ Ok (program, s) → Laid s
    laid_all program s h = subst (λ (r : Loads (Found × Loading)). EndsLaid r) h laid

    pub laid_until : (s : Loading) (f : Fault) → load files roots path ≡ Err (s, f) → LaidUntil s
    laid_until s f h = subst (λ (r : Loads (Found × Loading)). EndsLaid r) h laid
