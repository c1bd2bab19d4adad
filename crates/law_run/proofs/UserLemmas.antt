-- A library that is loaded has a name of one or more parts, and a program that of programs.
use Rattle.std.proofs.Common.{◌≡◌, ℕ, zero, suc, ◌<◌, Bool, true, false, List, [], ◌∷◌, ◌++◌, length, Result, Ok, Err, Option, Some, None, refl, sym, ap, subst, arith, ◌∙◌}
use Rattle.std.specs.Prelude.{is_some, slice_get, nat_le, codes, All, if◌then◌else◌}
use Rattle.base_data.proofs.ElementLemmas.{each-append}
use Rattle.base_data.specs.Datum.{PlainDatum, proper_elements}
use Rattle.base_data.specs.Elements.{Each}
use Rattle.base_data.specs.Gives.{◌>>=◌}
use Rattle.base_data.specs.declared.fault.Fault.{Fault}
use Rattle.base_data.specs.declared.fault.FaultKind.TheVariants as kind
use Rattle.base_data.specs.declared.library.LibName.{LibName}
use Rattle.base_data.specs.declared.library.LibName.TheVariants as library
use Rattle.base_data.specs.declared.span.Span.{Span}
use Rattle.load_file_names.specs.File.{file_of}
use Rattle.load_forms.specs.All.{given}
use Rattle.load_forms.specs.Export.{ExportList, exported}
use Rattle.load_forms.specs.Form.{form_of, not_library, or_fault, import_specs, export_specs, library_with, library_of, library_parts, library_in, read_library, program_of, read_program}
use Rattle.load_forms.specs.Name.{leading, behind, version_in, named_by, named}
use Rattle.load_forms.specs.Set.{datum_place}
use Rattle.load_forms.specs.Version.{version_fits}
use Rattle.load_forms.specs.declared.export.Export.{Export}
use Rattle.load_forms.specs.declared.form.LibraryForm.{LibraryForm}
use Rattle.load_forms.specs.declared.name.VersionedName.{VersionedName}
use Rattle.load_forms.specs.declared.set.Import.{Import}
use Rattle.load_import.specs.Table.{value_of}
use Rattle.load_import.specs.declared.set.ImportSet.{ImportSet}
use Rattle.base_outside.specs.Contents.{Paths, at_path, Reading, bytes, longer, absent, read_of}
use Rattle.read_reader.specs.Read.{data_of, file_nesting}
use Rattle.load_files.specs.Found.{nothing_loaded, no_needs, with_needs, with_source, with_sources, with_done, most_libraries, found_of}
use Rattle.load_files.specs.Load.{Loads, Loader, lifted, about, too_many, most, file_limit, look_for, program_in, begun, opened_from, opened_with, open_file, known_of, settled, load_new, refer_to, refer, refer_each, load_with, load_file, program_from, load}
use Rattle.load_files.specs.Load as loading
use Rattle.load_files.specs.declared.found.Found.{Found}
use Rattle.load_files.specs.declared.found.Loading.{Loading}
use Rattle.load_files.specs.declared.found.Opened.{Opened}
use Rattle.load_files.specs.declared.refer.Known.{Known}
use Rattle.load_files.specs.declared.refer.Known.TheVariants as known
use Rattle.load_files.specs.declared.search.Sought.{Sought}
use Rattle.load_files.specs.declared.search.Sought.TheVariants as sought
use Rattle.law_round.specs.Readable.{IsName}
use Rattle.law_run.proofs.SymbolLemmas.{HasNames, read_names, proper_named, form_named, leading_named}
use Rattle.law_load.proofs.OpenLemmas.{Ends, ends_on, ends_ok}
use Rattle.law_load.proofs.SourceLemmas.{library_is}

each_at_place : {X : Type 0} (P : X → Type 0) (xs : List X) (i : ℕ) (x : X) → Each P xs → slice_get xs i ≡ Some x → P x
each_at_place P [] i x h at = absurd (cc)
each_at_place P (y ∷ ys) zero x h at = let same : y ≡ x = cc in subst P same h.0
each_at_place P (y ∷ ys) (suc i) x h at = each_at_place P ys i x h.1 at

-- the name of a library of a file: it has parts, and each of them is a name
abbrev pub IsUser : LibName → Type 0
IsUser library.Core = ⊥
IsUser library.Derived = ⊥
IsUser library.Prelude = ⊥
IsUser library.Program = ⊥
IsUser (library.User parts) = (0 < length parts) × All IsName parts

-- ---- the name that a form has

named_user : (d : PlainDatum) (n : VersionedName) → HasNames d → named d ≡ Some n → IsUser n.name
named_user d n read h = by (proper_elements d) refl h
  where
    by_parts : (ps : List (List ℕ)) (v : Option (List ℕ)) → All IsName ps → named_by ps v ≡ Some n → IsUser n.name
    by_parts [] v are h = absurd (cc)
    by_parts (p ∷ ps) None are h = absurd (cc)
    by_parts (p ∷ ps) (Some v) are h =
        let same : ◌≡◌ {A = VersionedName} (record { name = library.User (p ∷ ps); version = v }) n = cc in
        subst (λ (x : VersionedName). IsUser x.name) same (omega arith, are)

    by : (o : Option (List PlainDatum)) → proper_elements d ≡ o → given o (λ ds. named_by (leading ds) (version_in (behind ds))) ≡ Some n → IsUser n.name
    by None is h = absurd (cc)
    by (Some ds) is h = by_parts (leading ds) (version_in (behind ds)) (leading_named ds (proper_named d ds read is)) h

module _ (file : List ℕ) (f : LibraryForm) where
  -- a form has the name that is read
  form_user : (place : Span) (exports imports : List PlainDatum) (n : VersionedName) → IsUser n.name → library_of file place exports imports n ≡ Ok f → IsUser f.name
  form_user place exports imports n user h = by_exports (export_specs file [] exports) h
    where
      by_names : (is : List Import) (x : Result ExportList Fault) → (x >>= (λ names. Ok (library_with n place is names))) ≡ Ok f → IsUser f.name
      by_names is (Ok names) h = let same : library_with n place is names ≡ f = cc in subst (λ (x : LibraryForm). IsUser x.name) same user
      by_names is (Err e) h = absurd (cc)

      by_imports : (es : List Export) (x : Result (List Import) Fault) → (x >>= (λ is. exported es >>= (λ names. Ok (library_with n place is names)))) ≡ Ok f → IsUser f.name
      by_imports es (Ok is) h = by_names is (exported es) h
      by_imports es (Err e) h = absurd (cc)

      by_exports : (x : Result (List Export) Fault)
          → (x >>= (λ es. import_specs file [] imports >>= (λ is. exported es >>= (λ names. Ok (library_with n place is names))))) ≡ Ok f → IsUser f.name
      by_exports (Ok es) h = by_imports es (import_specs file [] imports) h
      by_exports (Err e) h = absurd (cc)

  parts_user : (fault : Fault) (name : PlainDatum) (n : Option VersionedName) (exports imports : Option (List PlainDatum)) → HasNames name → named name ≡ n
      → library_parts file fault name n exports imports ≡ Ok f → IsUser f.name
  parts_user fault name None exports imports read e h = absurd (cc)
  parts_user fault name (Some n) None imports read e h = absurd (cc)
  parts_user fault name (Some n) (Some es) None read e h = absurd (cc)
  parts_user fault name (Some n) (Some es) (Some is) read e h = form_user (datum_place file name) es is n (named_user name n read e) h

  in_user : (fault : Fault) (ds : List PlainDatum) → Each HasNames ds → library_in file fault ds ≡ Ok f → IsUser f.name
  in_user fault [] read h = absurd (cc)
  in_user fault (name ∷ []) read h = absurd (cc)
  in_user fault (name ∷ exports ∷ []) read h = absurd (cc)
  in_user fault (name ∷ exports ∷ imports ∷ body) read h = parts_user fault name (named name) (form_of (codes "export") exports) (form_of (codes "import") imports) read.0 refl h

  read_user : (ds : List PlainDatum) → Each HasNames ds → read_library file ds ≡ Ok f → IsUser f.name
  read_user [] read h = absurd (cc)
  read_user (d ∷ []) read h = by (form_of (codes "library") d) refl h
    where
      by : (o : Option (List PlainDatum)) → form_of (codes "library") d ≡ o → or_fault (not_library file (d ∷ [])) o (library_in file (not_library file (d ∷ []))) ≡ Ok f → IsUser f.name
      by None is h = absurd (cc)
      by (Some ds) is h = in_user (not_library file (d ∷ [])) ds (form_named (codes "library") d ds read.0 is) h
  read_user (d ∷ e ∷ ds) read h = absurd (cc)

  read_is_program : (ds : List PlainDatum) → read_program file ds ≡ Ok f → f.name ≡ library.Program
  read_is_program [] h = absurd (cc)
  read_is_program (d ∷ ds) h = by (form_of (codes "import") d) h
    where
      by_imports : (x : Result (List Import) Fault)
          → (x >>= (λ is. Ok (record { name = library.Program; name_span = datum_place file d; version = []; exports = []; imports = is }))) ≡ Ok f → f.name ≡ library.Program
      by_imports (Ok is) h =
          let same : ◌≡◌ {A = LibraryForm} (record { name = library.Program; name_span = datum_place file d; version = []; exports = []; imports = is }) f = cc in
          ap (λ (x : LibraryForm). x.name) (sym same)
      by_imports (Err e) h = absurd (cc)

      by : (o : Option (List PlainDatum)) → or_fault (not_library file (d ∷ ds)) o (program_of file (datum_place file d)) ≡ Ok f → f.name ≡ library.Program
      by None h = absurd (cc)
      by (Some is) h = by_imports (import_specs file [] is) h

-- ---- the file of a library, and that of a program

library_user : (name : LibName) (path held : List ℕ) (o : Opened) → loading.library_in name path held ≡ Ok o → IsUser o.form.name
library_user name path held o h = by (data_of path held file_nesting) refl (library_is name path held o h)
  where
    by : (r : Result (List PlainDatum) Fault) → data_of path held file_nesting ≡ r → (r >>= read_library path) ≡ Ok o.form → IsUser o.form.name
    by (Ok ds) is h = read_user path o.form ds (read_names path held file_nesting ds is) h
    by (Err f) is h = absurd (cc)

program_named : (path held : List ℕ) (o : Opened) → program_in path held ≡ Ok o → o.form.name ≡ library.Program
unfolding program_in
program_named path held o h = by_data (data_of path held file_nesting) h
  where
    by_form : (ds : List PlainDatum) (r : Result LibraryForm Fault) → read_program path ds ≡ r
        → (r >>= (λ form. Ok (record { path = path; form = form; «data» = ds }))) ≡ Ok o → o.form.name ≡ library.Program
    by_form ds (Ok form) e h =
        let same : ◌≡◌ {A = Opened} (record { path = path; form = form; «data» = ds }) o = cc in
        ap (λ (x : Opened). x.form.name) (sym same) ∙ read_is_program path form ds e
    by_form ds (Err f) e h = absurd (cc)

    by_data : (r : Result (List PlainDatum) Fault)
        → (r >>= (λ ds. read_program path ds >>= (λ form. Ok (record { path = path; form = form; «data» = ds })))) ≡ Ok o → o.form.name ≡ library.Program
    by_data (Ok ds) h = by_form ds (read_program path ds) refl h
    by_data (Err f) h = absurd (cc)

-- ---- the libraries that are loaded

abbrev pub RowUser : List ℕ × Found → Type 0
RowUser row = IsUser row.1.opened.form.name

abbrev pub AreUsers : Loading → Type 0
AreUsers s = Each RowUser s.done

-- where loading stops nothing is asked here
abbrev pub Nothing : Loading → Type 0
Nothing s = Unit {0}

abbrev UsersMarked : List Bool × Loading → Type 0
UsersMarked n = AreUsers n.1

record Opens (o : Opened × Loading) : Type 0 where
  pub user : IsUser o.0.form.name
  pub users : AreUsers o.1

-- a file is loaded
pub record Closes (o : Opened) (l : Found × Loading) : Type 0 where
  pub opened : l.0.opened ≡ o
  pub users : AreUsers l.1

abbrev pub LoadsUsers : Loader → Type 0
LoadsUsers load = (o : Opened) (s : Loading) → AreUsers s → Ends (Closes o) Nothing (load o s)

abbrev InsideUsers : Option Loader → Type 0
InsideUsers None = Unit {0}
InsideUsers (Some load) = LoadsUsers load

users_with : (s : Loading) (file : List ℕ) (f : Found) → AreUsers s → IsUser f.opened.form.name → AreUsers (with_done s file f)
users_with s file f users user = by (is_some (value_of file s.done))
  where
    by : (b : Bool) → Each RowUser (if b then s.done else s.done ++ (file, f) ∷ [])
    by true = users
    by false = each-append RowUser s.done ((file, f) ∷ []) users (user, tt)

users_settled : (set : ImportSet) (needs : List Bool) (f : Found) (s : Loading) → AreUsers s → IsUser f.opened.form.name → Ends UsersMarked Nothing (settled set needs f s)
unfolding settled
users_settled set needs f s users user = by (version_fits f.opened.form.version set.version)
  where
    by : (b : Bool) → Ends UsersMarked Nothing (lifted (with_done s (file_of set.library) f)
        (if b then Ok (with_needs needs f, with_done s (file_of set.library) f) else Err (about kind.VersionRefused set)))
    by true = users_with s (file_of set.library) f users user
    by false = tt

module _ (files : Paths) (roots : List (List ℕ)) where
  users_sought : (set : ImportSet) (s : Loading) → AreUsers s → (x : Sought) → Ends Opens Nothing (opened_from s set x)
  users_sought set s users sought.Nowhere = tt
  users_sought set s users (sought.Longer path) = tt
  users_sought set s users (sought.Bytes path held) = by (loading.library_in set.library path held) refl
    where
      by : (r : Result Opened Fault) → loading.library_in set.library path held ≡ r
          → Ends Opens Nothing (lifted (with_source s path held) r >>= (λ o. begun (with_source s path held) (file_of set.library) o))
      by (Ok o) e = record { user = library_user set.library path held o e; users = users }
      by (Err f) e = tt

  users_opened : (set : ImportSet) (s : Loading) → AreUsers s → Ends Opens Nothing (open_file files roots set s)
  unfolding open_file
  users_opened set s users = by (nat_le most_libraries (length s.begun))
    where
      by : (b : Bool) → Ends Opens Nothing (if b then Err (s, too_many set) else opened_with s set (look_for files (most s.bytes) (file_of set.library) s.sources roots))
      by true = tt
      by false =
          users_sought set (with_sources s (look_for files (most s.bytes) (file_of set.library) s.sources roots).0) users
          (look_for files (most s.bytes) (file_of set.library) s.sources roots).1

  users_new : (inside : Option Loader) → InsideUsers inside → (needs : List Bool) (s : Loading) (set : ImportSet) → AreUsers s → Ends UsersMarked Nothing (load_new files roots inside needs s set)
  users_new None well needs s set users = tt
  users_new (Some load) well needs s set users =
      ends_on Opens UsersMarked Nothing (open_file files roots set s) (λ o. load o.0 o.1 >>= (λ l. settled set needs l.0 l.1)) (users_opened set s users)
      (λ o p. ends_on (Closes o.0) UsersMarked Nothing (load o.0 o.1) (λ l. settled set needs l.0 l.1) (well o.0 o.1 p.users)
      (λ l q. users_settled set needs l.0 l.1 q.users (subst (λ (x : Opened). IsUser x.form.name) (sym q.opened) p.user)))

  users_referred : (inside : Option Loader) → InsideUsers inside → (needs : List Bool) (s : Loading) (set : ImportSet) → AreUsers s → (k : Result Known Fault)
      → Ends UsersMarked Nothing (refer_to files roots inside needs s set k)
  users_referred inside well needs s set users (Err f) = tt
  users_referred inside well needs s set users (Ok known.Builtin) = users
  users_referred inside well needs s set users (Ok known.Joined) = users
  users_referred inside well needs s set users (Ok (known.Loaded more)) = users
  users_referred inside well needs s set users (Ok known.New) = users_new inside well needs s set users

  users_each : (inside : Option Loader) → InsideUsers inside → (needs : List Bool) (s : Loading) (is : List Import) → AreUsers s
      → Ends UsersMarked Nothing (refer_each files roots inside needs s is)
  unfolding refer_each
  users_each inside well needs s [] users = users
  users_each inside well needs s (i ∷ is) users =
      ends_on UsersMarked UsersMarked Nothing (refer files roots inside needs s i.set) (λ n. refer_each files roots inside n.0 n.1 is)
      (users_referred inside well needs s i.set users (known_of s needs i.set))
      (λ n h. users_each inside well n.0 n.1 is h)

  users_loaded : (inside : Option Loader) → InsideUsers inside → LoadsUsers (load_with files roots inside)
  users_loaded inside well o s users =
      ends_on UsersMarked (Closes o) Nothing (refer_each files roots inside no_needs s o.form.imports) (λ n. Ok (found_of o n.0 n.1, n.1))
      (users_each inside well no_needs s o.form.imports users)
      (λ n h. record { opened = refl; users = h })

  pub users_file : (room : ℕ) → LoadsUsers (load_file files roots room)
  unfolding load_file
  users_file zero = users_loaded None tt
  users_file (suc room) = users_loaded (Some (load_file files roots room)) (users_file room)

  -- ---- a whole run

  -- the program has the name of programs, and each library one of its own
  record AreNamed (l : Found × Loading) : Type 0 where
    pub program : l.0.opened.form.name ≡ library.Program
    pub users : AreUsers l.1

  module _ (path : List ℕ) where
    named_from : (r : Reading) → Ends AreNamed Nothing (program_from files roots path r)
    named_from absent = tt
    named_from longer = tt
    named_from (bytes held) = by (program_in path held) refl
      where
        by : (r : Result Opened Fault) → program_in path held ≡ r
            → Ends AreNamed Nothing (lifted (with_source nothing_loaded path held) r >>= (λ o. load_file files roots most_libraries o (with_source nothing_loaded path held)))
        by (Ok o) e =
            ends_ok (Closes o) AreNamed Nothing (load_file files roots most_libraries o (with_source nothing_loaded path held))
            (λ l h. record { program = ap (λ (x : Opened). x.form.name) h.opened ∙ program_named path held o e; users = h.users })
            (users_file most_libraries o (with_source nothing_loaded path held) tt)
        by (Err f) e = tt

    named_ends : Ends AreNamed Nothing (load files roots path)
    unfolding load
    named_ends = named_from (read_of (at_path files path) file_limit)

    named_all : (program : Found) (s : Loading) → load files roots path ≡ Ok (program, s) → AreNamed (program, s)
    named_all program s h = subst (λ (r : Loads (Found × Loading)). Ends AreNamed Nothing r) h named_ends

    pub program_name : (program : Found) (s : Loading) → load files roots path ≡ Ok (program, s) → program.opened.form.name ≡ library.Program
    program_name program s h = (named_all program s h).program

    pub user_at : (program : Found) (s : Loading) → load files roots path ≡ Ok (program, s)
        → (i : ℕ) (file : List ℕ) (f : Found) → slice_get s.done i ≡ Some (file, f) → IsUser f.opened.form.name
    user_at program s h i file f at = each_at_place RowUser s.done i (file, f) (named_all program s h).users at
