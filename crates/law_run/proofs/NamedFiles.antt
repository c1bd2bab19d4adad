-- Each library that is loaded has a name of parts, where loading ends and where it stops.
use Rattle.std.proofs.Common.{◌≡◌, ℕ, zero, suc, Bool, true, false, List, [], ◌∷◌, ◌++◌, length, Result, Ok, Err, Option, Some, None, refl, sym, subst}
use Rattle.std.specs.Prelude.{is_some, slice_get, nat_le, codes, if◌then◌else◌}
use Rattle.base_data.proofs.ElementLemmas.{each-append}
use Rattle.base_data.specs.Datum.{PlainDatum, proper_elements}
use Rattle.base_data.specs.Elements.{Each}
use Rattle.base_data.specs.Gives.{◌>>=◌}
use Rattle.base_data.specs.Same.{same_library}
use Rattle.base_data.specs.declared.fault.Fault.{Fault}
use Rattle.base_data.specs.declared.fault.FaultKind.TheVariants as kind
use Rattle.base_data.specs.declared.library.LibName.{LibName}
use Rattle.base_data.specs.declared.library.LibName.TheVariants as library
use Rattle.base_data.specs.declared.span.Span.{Span}
use Rattle.load_file_names.specs.File.{file_of}
use Rattle.load_forms.specs.All.{given}
use Rattle.load_forms.specs.Export.{exported}
use Rattle.load_forms.specs.Form.{form_of, not_library, or_fault, import_specs, export_specs, library_with, library_of, library_parts, library_in, read_library}
use Rattle.load_forms.specs.Name.{leading, behind, version_in, named_by, named}
use Rattle.load_forms.specs.Set.{datum_place}
use Rattle.load_forms.specs.Version.{version_fits}
use Rattle.load_forms.specs.declared.form.LibraryForm.{LibraryForm}
use Rattle.load_forms.specs.declared.name.VersionedName.{VersionedName}
use Rattle.load_forms.specs.declared.set.Import.{Import}
use Rattle.load_import.specs.Table.{value_of}
use Rattle.load_import.specs.declared.set.ImportSet.{ImportSet}
use Rattle.base_outside.specs.Contents.{Paths, at_path, Reading, bytes, longer, absent, read_of}
use Rattle.read_reader.specs.Read.{data_of, file_nesting}
use Rattle.load_files.specs.Found.{nothing_loaded, no_needs, with_needs, with_source, with_sources, with_done, most_libraries, found_of}
use Rattle.load_files.specs.Load.{Loads, Loader, lifted, about, too_many, most, file_limit, look_for, program_in, begun, opened_from, opened_with, open_file, known_of, settled, load_new, refer_to, refer, refer_each, load_with, load_file, program_from, load}
use Rattle.load_files.specs.Load.{library_in as opened_library, opened as opened_as, differs}
use Rattle.load_files.specs.declared.found.Found.{Found}
use Rattle.load_files.specs.declared.found.Loading.{Loading}
use Rattle.load_files.specs.declared.found.Opened.{Opened}
use Rattle.load_files.specs.declared.refer.Known.{Known}
use Rattle.load_files.specs.declared.refer.Known.TheVariants as known
use Rattle.load_files.specs.declared.search.Sought.{Sought}
use Rattle.load_files.specs.declared.search.Sought.TheVariants as sought
use Rattle.law_load.proofs.OpenLemmas.{Ends, ends_on, ends_ok}

abbrev pub IsUser : LibName → Type 0
IsUser library.Core = ⊥
IsUser library.Derived = ⊥
IsUser library.Prelude = ⊥
IsUser library.Program = ⊥
IsUser (library.User parts) = Unit {0}

-- ---- what a result gives, where it gives something

abbrev Gives : {A : Type 0} → (A → Type 0) → Result A Fault → Type 0
Gives P (Ok x) = P x
Gives P (Err f) = Unit {0}

gives-then : {A B : Type 0} (P : A → Type 0) (Q : B → Type 0) (r : Result A Fault) (go : A → Result B Fault) → Gives P r → ((x : A) → P x → Gives Q (go x)) → Gives Q (r >>= go)
gives-then P Q (Ok x) go h k = k x h
gives-then P Q (Err f) go h k = tt

-- any at all
gives-any : {A B : Type 0} (Q : B → Type 0) (r : Result A Fault) (go : A → Result B Fault) → ((x : A) → Gives Q (go x)) → Gives Q (r >>= go)
gives-any Q (Ok x) go k = k x
gives-any Q (Err f) go k = tt

-- ---- the name that a form has

abbrev UserNamed : Option VersionedName → Type 0
UserNamed None = Unit {0}
UserNamed (Some n) = IsUser n.name

named-user : (d : PlainDatum) → UserNamed (named d)
named-user d = by (proper_elements d)
  where
    by-parts : (ps : List (List ℕ)) (v : Option (List ℕ)) → UserNamed (named_by ps v)
    by-parts [] v = tt
    by-parts (p ∷ ps) None = tt
    by-parts (p ∷ ps) (Some v) = tt

    by : (o : Option (List PlainDatum)) → UserNamed (given o (λ ds. named_by (leading ds) (version_in (behind ds))))
    by None = tt
    by (Some ds) = by-parts (leading ds) (version_in (behind ds))

abbrev UserForm : LibraryForm → Type 0
UserForm f = IsUser f.name

module _ (file : List ℕ) where
  form-user : (place : Span) (es is : List PlainDatum) (n : VersionedName) → IsUser n.name → Gives UserForm (library_of file place es is n)
  form-user place es is n h =
      gives-any UserForm (export_specs file [] es) (λ xs. import_specs file [] is >>= (λ ys. exported xs >>= (λ names. Ok (library_with n place ys names))))
      (λ xs. gives-any UserForm (import_specs file [] is) (λ ys. exported xs >>= (λ names. Ok (library_with n place ys names)))
      (λ ys. gives-any UserForm (exported xs) (λ names. Ok (library_with n place ys names)) (λ names. h)))

  parts-user : (f : Fault) (name : PlainDatum) (n : Option VersionedName) (es is : Option (List PlainDatum)) → UserNamed n → Gives UserForm (library_parts file f name n es is)
  parts-user f name None es is h = tt
  parts-user f name (Some n) None is h = tt
  parts-user f name (Some n) (Some es) None h = tt
  parts-user f name (Some n) (Some es) (Some is) h = form-user (datum_place file name) es is n h

  in-user : (f : Fault) (ds : List PlainDatum) → Gives UserForm (library_in file f ds)
  in-user f [] = tt
  in-user f (name ∷ []) = tt
  in-user f (name ∷ es ∷ []) = tt
  in-user f (name ∷ es ∷ is ∷ body) = parts-user f name (named name) (form_of (codes "export") es) (form_of (codes "import") is) (named-user name)

  read-user : (ds : List PlainDatum) → Gives UserForm (read_library file ds)
  read-user [] = tt
  read-user (d ∷ []) = by (form_of (codes "library") d)
    where
      by : (o : Option (List PlainDatum)) → Gives UserForm (or_fault (not_library file (d ∷ [])) o (library_in file (not_library file (d ∷ []))))
      by None = tt
      by (Some ds) = in-user (not_library file (d ∷ [])) ds
  read-user (d ∷ e ∷ ds) = tt

abbrev UserOpened : Opened → Type 0
UserOpened o = IsUser o.form.name

library-user : (name : LibName) (path held : List ℕ) → Gives UserOpened (opened_library name path held)
unfolding opened_library
library-user name path held =
    gives-any UserOpened (data_of path held file_nesting) (λ ds. read_library path ds >>= (λ form. opened_as name path ds form))
    (λ ds. gives-then UserForm UserOpened (read_library path ds) (λ form. opened_as name path ds form) (read-user path ds) (λ form h. by ds form h (same_library form.name name)))
  where
    by : (ds : List PlainDatum) (form : LibraryForm) → IsUser form.name → (b : Bool) → Gives UserOpened (if b then Ok (record { path = path; form = form; «data» = ds }) else Err (differs form))
    by ds form h true = h
    by ds form h false = tt

-- ---- the libraries that are loaded

abbrev RowUser : List ℕ × Found → Type 0
RowUser row = IsUser row.1.opened.form.name

abbrev AreUsers : Loading → Type 0
AreUsers s = Each RowUser s.done

abbrev UsersMarked : List Bool × Loading → Type 0
UsersMarked n = AreUsers n.1

record Opens (o : Opened × Loading) : Type 0 where
  user : IsUser o.0.form.name
  users : AreUsers o.1

-- a file is loaded
record Closes (o : Opened) (l : Found × Loading) : Type 0 where
  opened : l.0.opened ≡ o
  users : AreUsers l.1

abbrev LoadsUsers : Loader → Type 0
LoadsUsers load = (o : Opened) (s : Loading) → AreUsers s → Ends (Closes o) AreUsers (load o s)

abbrev InsideUsers : Option Loader → Type 0
InsideUsers None = Unit {0}
InsideUsers (Some load) = LoadsUsers load

users-with : (s : Loading) (file : List ℕ) (f : Found) → AreUsers s → IsUser f.opened.form.name → AreUsers (with_done s file f)
users-with s file f users user = by (is_some (value_of file s.done))
  where
    by : (b : Bool) → Each RowUser (if b then s.done else s.done ++ (file, f) ∷ [])
    by true = users
    by false = each-append RowUser s.done ((file, f) ∷ []) users (user, tt)

users-settled : (set : ImportSet) (needs : List Bool) (f : Found) (s : Loading) → AreUsers s → IsUser f.opened.form.name → Ends UsersMarked AreUsers (settled set needs f s)
unfolding settled
users-settled set needs f s users user = by (version_fits f.opened.form.version set.version)
  where
    by : (b : Bool) → Ends UsersMarked AreUsers (lifted (with_done s (file_of set.library) f)
        (if b then Ok (with_needs needs f, with_done s (file_of set.library) f) else Err (about kind.VersionRefused set)))
    by true = users-with s (file_of set.library) f users user
    by false = users-with s (file_of set.library) f users user

module _ (files : Paths) (roots : List (List ℕ)) where
  users-sought : (set : ImportSet) (s : Loading) → AreUsers s → (x : Sought) → Ends Opens AreUsers (opened_from s set x)
  users-sought set s users sought.Nowhere = users
  users-sought set s users (sought.Longer path) = users
  users-sought set s users (sought.Bytes path held) = by (opened_library set.library path held) (library-user set.library path held)
    where
      by : (r : Result Opened Fault) → Gives UserOpened r → Ends Opens AreUsers (lifted (with_source s path held) r >>= (λ o. begun (with_source s path held) (file_of set.library) o))
      by (Ok o) h = record { user = h; users = users }
      by (Err f) h = users

  users-opened : (set : ImportSet) (s : Loading) → AreUsers s → Ends Opens AreUsers (open_file files roots set s)
  unfolding open_file
  users-opened set s users = by (nat_le most_libraries (length s.begun))
    where
      by : (b : Bool) → Ends Opens AreUsers (if b then Err (s, too_many set) else opened_with s set (look_for files (most s.bytes) (file_of set.library) s.sources roots))
      by true = users
      by false =
          users-sought set (with_sources s (look_for files (most s.bytes) (file_of set.library) s.sources roots).0) users
          (look_for files (most s.bytes) (file_of set.library) s.sources roots).1

  users-new : (inside : Option Loader) → InsideUsers inside → (needs : List Bool) (s : Loading) (set : ImportSet) → AreUsers s → Ends UsersMarked AreUsers (load_new files roots inside needs s set)
  users-new None well needs s set users = users
  users-new (Some load) well needs s set users =
      ends_on Opens UsersMarked AreUsers (open_file files roots set s) (λ o. load o.0 o.1 >>= (λ l. settled set needs l.0 l.1)) (users-opened set s users)
      (λ o p. ends_on (Closes o.0) UsersMarked AreUsers (load o.0 o.1) (λ l. settled set needs l.0 l.1) (well o.0 o.1 p.users)
      (λ l q. users-settled set needs l.0 l.1 q.users (subst (λ (x : Opened). IsUser x.form.name) (sym q.opened) p.user)))

  users-referred : (inside : Option Loader) → InsideUsers inside → (needs : List Bool) (s : Loading) (set : ImportSet) → AreUsers s → (k : Result Known Fault)
      → Ends UsersMarked AreUsers (refer_to files roots inside needs s set k)
  users-referred inside well needs s set users (Err f) = users
  users-referred inside well needs s set users (Ok known.Builtin) = users
  users-referred inside well needs s set users (Ok known.Joined) = users
  users-referred inside well needs s set users (Ok (known.Loaded more)) = users
  users-referred inside well needs s set users (Ok known.New) = users-new inside well needs s set users

  users-each : (inside : Option Loader) → InsideUsers inside → (needs : List Bool) (s : Loading) (is : List Import) → AreUsers s
      → Ends UsersMarked AreUsers (refer_each files roots inside needs s is)
  unfolding refer_each
  users-each inside well needs s [] users = users
  users-each inside well needs s (i ∷ is) users =
      ends_on UsersMarked UsersMarked AreUsers (refer files roots inside needs s i.set) (λ n. refer_each files roots inside n.0 n.1 is)
      (users-referred inside well needs s i.set users (known_of s needs i.set))
      (λ n h. users-each inside well n.0 n.1 is h)

  users-loaded : (inside : Option Loader) → InsideUsers inside → LoadsUsers (load_with files roots inside)
  users-loaded inside well o s users =
      ends_on UsersMarked (Closes o) AreUsers (refer_each files roots inside no_needs s o.form.imports) (λ n. Ok (found_of o n.0 n.1, n.1))
      (users-each inside well no_needs s o.form.imports users)
      (λ n h. record { opened = refl; users = h })

  users-file : (room : ℕ) → LoadsUsers (load_file files roots room)
  unfolding load_file
  users-file zero = users-loaded None tt
  users-file (suc room) = users-loaded (Some (load_file files roots room)) (users-file room)

  -- ---- a whole run

  abbrev UsersFound : Found × Loading → Type 0
  UsersFound l = AreUsers l.1

  users-from : (path : List ℕ) (r : Reading) → Ends UsersFound AreUsers (program_from files roots path r)
  users-from path absent = tt
  users-from path longer = tt
  users-from path (bytes held) = by (program_in path held)
    where
      by : (r : Result Opened Fault)
          → Ends UsersFound AreUsers (lifted (with_source nothing_loaded path held) r >>= (λ o. load_file files roots most_libraries o (with_source nothing_loaded path held)))
      by (Ok o) =
          ends_ok (Closes o) UsersFound AreUsers (load_file files roots most_libraries o (with_source nothing_loaded path held)) (λ l h. h.users)
          (users-file most_libraries o (with_source nothing_loaded path held) tt)
      by (Err f) = tt

  users-ends : (path : List ℕ) → Ends UsersFound AreUsers (load files roots path)
  unfolding load
  users-ends path = users-from path (read_of (at_path files path) file_limit)

-- each of some libraries has such a name
abbrev pub AllUsers : List (List ℕ × Found) → Type 0
AllUsers rows = (i : ℕ) (file : List ℕ) (f : Found) → slice_get rows i ≡ Some (file, f) → IsUser f.opened.form.name

at-place : (rows : List (List ℕ × Found)) → Each RowUser rows → AllUsers rows
at-place [] h i file f at = absurd (cc)
at-place (row ∷ rows) h zero file f at = let same : row ≡ (file, f) = cc in subst RowUser same h.0
at-place (row ∷ rows) h (suc i) file f at = at-place rows h.1 i file f at

pub users-all : (files : Paths) (roots : List (List ℕ)) (path : List ℕ) (found : Found) (s : Loading) → load files roots path ≡ Ok (found, s) → AllUsers s.done
users-all files roots path found s h = at-place s.done (subst (λ (r : Loads (Found × Loading)). Ends (UsersFound files roots) AreUsers r) h (users-ends files roots path))

pub users-until : (files : Paths) (roots : List (List ℕ)) (path : List ℕ) (s : Loading) (f : Fault) → load files roots path ≡ Err (s, f) → AllUsers s.done
users-until files roots path s f h = at-place s.done (subst (λ (r : Loads (Found × Loading)). Ends (UsersFound files roots) AreUsers r) h (users-ends files roots path))
