-- A program that can't be loaded is refused for a file, its form or a reference.
use Rattle.std.proofs.Common.{ℕ, zero, suc, Bool, true, false, List, [], ◌∷◌, length, Option, Some, None, Result, Ok, Err, if◌then◌else◌, inl, inr}
use Rattle.std.specs.Prelude.{is_some, nat_le}
use Rattle.base_data.specs.Datum.{PlainDatum}
use Rattle.base_data.specs.Gives.{◌>>=◌}
use Rattle.base_data.specs.Same.{same_library}
use Rattle.base_data.specs.declared.fault.Fault.{Fault}
use Rattle.base_data.specs.declared.library.LibName.{LibName}
use Rattle.load_builtin.specs.Exports.{exports}
use Rattle.load_file_names.specs.File.{file_of}
use Rattle.load_forms.specs.Form.{read_library, read_program}
use Rattle.load_forms.specs.Version.{version_fits}
use Rattle.load_forms.specs.declared.form.LibraryForm.{LibraryForm}
use Rattle.load_forms.specs.declared.set.Import.{Import}
use Rattle.load_import.specs.Table.{value_of}
use Rattle.load_import.specs.declared.set.ImportSet.{ImportSet}
use Rattle.load_files.specs.Found.{with_needs, no_needs, most_libraries, with_source, with_sources, with_done, found_of, nothing_loaded}
use Rattle.load_files.specs.Load.{Loads, lifted, file_limit, most, look_for, opened, library_in, program_in, begun, opened_from, open_file, builtin_version, fitting, by_begun, by_done, joined, known_of, settled, Loader, load_new, refer_to, refer, refer_each, load_with, load_file, program_from, load}
use Rattle.load_files.specs.declared.found.Found.{Found}
use Rattle.load_files.specs.declared.found.Loading.{Loading}
use Rattle.load_files.specs.declared.found.Opened.{Opened}
use Rattle.load_files.specs.declared.refer.Known.{Known}
use Rattle.load_files.specs.declared.refer.Known.TheVariants as known
use Rattle.load_files.specs.declared.search.Sought.{Sought}
use Rattle.load_files.specs.declared.search.Sought.TheVariants as sought
use Rattle.base_outside.specs.Contents.{Paths, at_path, Reading, bytes, longer, absent, read_of}
use Rattle.read_reader.specs.Read.{data_of, file_nesting}
use Rattle.law_kinds.specs.Kinds.{IsOfReading, IsOfForms, IsOfLoading, Tells}
use Rattle.law_kinds.specs.Laws.{LoadTells, LoadingTells}
use Rattle.law_kinds.proofs.Tells.{tells-if, tells-then, tells-less}
use Rattle.law_kinds.proofs.Reading.{reading-tells}
use Rattle.law_kinds.proofs.Forms.{libraries-tell, programs-tell}

-- ---- results

of-reading : {A : Type 0} (r : Result A Fault) → Tells IsOfReading r → Tells IsOfLoading r
of-reading r h = tells-less IsOfReading IsOfLoading (λ k i. inl i) r h

of-forms : {A : Type 0} (r : Result A Fault) → Tells IsOfForms r → Tells IsOfLoading r
of-forms r h = tells-less IsOfForms IsOfLoading (λ k i. inr (inl i)) r h

l-then : {A B : Type 0} (r : Loads A) (go : A → Loads B) → LoadTells IsOfLoading r → ((x : A) → LoadTells IsOfLoading (go x)) → LoadTells IsOfLoading (r >>= go)
l-then (Ok x) go h k = k x
l-then (Err e) go h k = h

l-if : {A : Type 0} (b : Bool) (x y : Loads A) → LoadTells IsOfLoading x → LoadTells IsOfLoading y → LoadTells IsOfLoading (if b then x else y)
l-if true x y h k = h
l-if false x y h k = k

lifts : {A : Type 0} (s : Loading) (r : Result A Fault) → Tells IsOfLoading r → LoadTells IsOfLoading (lifted s r)
lifts s (Ok x) h = tt
lifts s (Err f) h = h

-- ---- one file

opens : (name : LibName) (path : List ℕ) (ds : List PlainDatum) (form : LibraryForm) → Tells IsOfLoading (opened name path ds form)
opens name path ds form = tells-if IsOfLoading (same_library form.name name) _ _ tt (inr (inr tt))

library : (name : LibName) (path held : List ℕ) → Tells IsOfLoading (library_in name path held)
unfolding library_in
library name path held =
    tells-then IsOfLoading (data_of path held file_nesting) (λ ds. read_library path ds >>= (λ form. opened name path ds form)) (of-reading (data_of path held file_nesting) (reading-tells path held file_nesting))
    (λ ds. tells-then IsOfLoading (read_library path ds) (λ form. opened name path ds form) (of-forms (read_library path ds) (libraries-tell path ds)) (λ form. opens name path ds form))

program : (path held : List ℕ) → Tells IsOfLoading (program_in path held)
unfolding program_in
program path held =
    tells-then IsOfLoading (data_of path held file_nesting) _ (of-reading (data_of path held file_nesting) (reading-tells path held file_nesting))
    (λ ds. tells-then IsOfLoading (read_program path ds) _ (of-forms (read_program path ds) (programs-tell path ds)) (λ form. tt))

from : (s : Loading) (set : ImportSet) (x : Sought) → LoadTells IsOfLoading (opened_from s set x)
from s set sought.Nowhere = inr (inr tt)
from s set (sought.Longer path) = inr (inr tt)
from s set (sought.Bytes path held) =
    l-then (lifted (with_source s path held) (library_in set.library path held)) (λ o. begun (with_source s path held) (file_of set.library) o)
    (lifts (with_source s path held) (library_in set.library path held) (library set.library path held)) (λ o. tt)

file : (files : Paths) (roots : List (List ℕ)) (set : ImportSet) (s : Loading) → LoadTells IsOfLoading (open_file files roots set s)
unfolding open_file
file files roots set s =
    let looked = look_for files (most s.bytes) (file_of set.library) s.sources roots in
    l-if (nat_le most_libraries (length s.begun)) _ _ (inr (inr tt)) (from (with_sources s looked.0) set looked.1)

-- ---- a reference

fits : {A : Type 0} (version : List ℕ) (set : ImportSet) (x : A) → Tells IsOfLoading (fitting version set x)
fits version set x = tells-if IsOfLoading (version_fits version set.version) _ _ tt (inr (inr tt))

known-begun : (set : ImportSet) (b : Bool) → Tells IsOfLoading (by_begun set b)
known-begun set true = inr (inr tt)
known-begun set false = tt

known-done : (s : Loading) (needs : List Bool) (set : ImportSet) (o : Option Found) → Tells IsOfLoading (by_done s needs set o)
known-done s needs set None = known-begun set (is_some (value_of (file_of set.library) s.begun))
known-done s needs set (Some found) = fits found.opened.form.version set (joined needs found)

knows : (s : Loading) (needs : List Bool) (set : ImportSet) → Tells IsOfLoading (known_of s needs set)
unfolding known_of
knows s needs set = tells-if IsOfLoading (is_some (exports set.library)) _ _ (fits builtin_version set known.Builtin) (known-done s needs set (value_of (file_of set.library) s.done))

settles : (set : ImportSet) (needs : List Bool) (found : Found) (s : Loading) → LoadTells IsOfLoading (settled set needs found s)
unfolding settled
settles set needs found s =
    lifts (with_done s (file_of set.library) found) _ (fits found.opened.form.version set (with_needs needs found, with_done s (file_of set.library) found))

-- ---- the files inside a file

module _ (files : Paths) (roots : List (List ℕ)) where
  -- a loader tells these kinds, where there is one
  abbrev Inner : Option Loader → Type 0
  Inner None = Unit {0}
  Inner (Some load) = (o : Opened) (s : Loading) → LoadTells IsOfLoading (load o s)

  new : (inside : Option Loader) → Inner inside → (needs : List Bool) (s : Loading) (set : ImportSet) → LoadTells IsOfLoading (load_new files roots inside needs s set)
  new None h needs s set = inr (inr tt)
  new (Some load) h needs s set =
      l-then (open_file files roots set s) (λ o. load o.0 o.1 >>= (λ l. settled set needs l.0 l.1)) (file files roots set s)
      (λ o. l-then (load o.0 o.1) (λ l. settled set needs l.0 l.1) (h o.0 o.1) (λ l. settles set needs l.0 l.1))

  refers-to : (inside : Option Loader) → Inner inside → (needs : List Bool) (s : Loading) (set : ImportSet) (k : Result Known Fault) → Tells IsOfLoading k
      → LoadTells IsOfLoading (refer_to files roots inside needs s set k)
  refers-to inside h needs s set (Err f) i = i
  refers-to inside h needs s set (Ok known.Builtin) i = tt
  refers-to inside h needs s set (Ok known.Joined) i = tt
  refers-to inside h needs s set (Ok (known.Loaded more)) i = tt
  refers-to inside h needs s set (Ok known.New) i = new inside h needs s set

  each : (inside : Option Loader) → Inner inside → (needs : List Bool) (s : Loading) (is : List Import) → LoadTells IsOfLoading (refer_each files roots inside needs s is)
  unfolding refer_each
  each inside h needs s [] = tt
  each inside h needs s (i ∷ is) =
      l-then (refer files roots inside needs s i.set) (λ n. refer_each files roots inside n.0 n.1 is) (refers-to inside h needs s i.set (known_of s needs i.set) (knows s needs i.set)) (λ n. each inside h n.0 n.1 is)

  with-inner : (inside : Option Loader) → Inner inside → (o : Opened) (s : Loading) → LoadTells IsOfLoading (load_with files roots inside o s)
  with-inner inside h o s = l-then (refer_each files roots inside no_needs s o.form.imports) (λ n. Ok (found_of o n.0 n.1, n.1)) (each inside h no_needs s o.form.imports) (λ n. tt)

  loads : (room : ℕ) (o : Opened) (s : Loading) → LoadTells IsOfLoading (load_file files roots room o s)
  unfolding load_file
  loads zero o s = with-inner None tt o s
  loads (suc room) o s = with-inner (Some (load_file files roots room)) (loads room) o s

  loaded : (path : List ℕ) (x : Reading) → LoadTells IsOfLoading (program_from files roots path x)
  loaded path absent = inr (inr tt)
  loaded path longer = inr (inr tt)
  loaded path (bytes held) =
      l-then (lifted (with_source nothing_loaded path held) (program_in path held)) (λ o. load_file files roots most_libraries o (with_source nothing_loaded path held))
      (lifts (with_source nothing_loaded path held) (program_in path held) (program path held)) (λ o. loads most_libraries o (with_source nothing_loaded path held))

pub loading-tells : LoadingTells
unfolding load
loading-tells files roots path = loaded files roots path (read_of (at_path files path) file_limit)
