-- Opening a file loads no library; it is begun, and its library has the name that was asked for.
use Rattle.std.proofs.Common.{◌≡◌, ℕ, ◌<◌, Bool, true, false, List, length, Result, Ok, Err, refl, sym, ap, ◌∙◌, arith}
use Rattle.std.specs.Prelude.{nat_le, if◌then◌else◌}
use Rattle.base_data.specs.Datum.{PlainDatum}
use Rattle.base_data.specs.Gives.{◌>>=◌}
use Rattle.base_data.specs.Same.{same_library, same_library_decides}
use Rattle.base_data.specs.declared.fault.Fault.{Fault}
use Rattle.base_data.specs.declared.library.LibName.{LibName}
use Rattle.load_forms.specs.Form.{read_library}
use Rattle.load_forms.specs.declared.form.LibraryForm.{LibraryForm}
use Rattle.load_file_names.specs.File.{file_of}
use Rattle.load_import.specs.Table.{put_first}
use Rattle.load_import.specs.declared.set.ImportSet.{ImportSet}
use Rattle.base_outside.specs.Contents.{Paths}
use Rattle.read_reader.specs.Read.{data_of, file_nesting}
use Rattle.load_files.specs.Found.{most_libraries, with_source, with_sources}
use Rattle.load_files.specs.Load.{Loads, lifted, most, look_for, opened, library_in, begun, opened_from, opened_with, open_file}
use Rattle.load_files.specs.declared.found.Source.{Source}
use Rattle.load_files.specs.declared.found.Opened.{Opened}
use Rattle.load_files.specs.declared.found.Loading.{Loading}
use Rattle.load_files.specs.declared.search.Sought.{Sought}
use Rattle.load_files.specs.declared.search.Sought.TheVariants as sought

-- what loading ends with, or the state that a fault leaves
abbrev pub Ends : {A : Type 0} → (A → Type 0) → (Loading → Type 0) → Loads A → Type 0
Ends P E (Ok x) = P x
Ends P E (Err e) = E e.0

pub ends_on : {A B : Type 0} (P : A → Type 0) (Q : B → Type 0) (E : Loading → Type 0) (x : Loads A) (f : A → Loads B) → Ends P E x → ((a : A) → P a → Ends Q E (f a)) → Ends Q E (x >>= f)
ends_on P Q E (Ok a) f h k = k a h
ends_on P Q E (Err e) f h k = h

pub ends_ok : {A : Type 0} (P Q : A → Type 0) (E : Loading → Type 0) (x : Loads A) → ((a : A) → P a → Q a) → Ends P E x → Ends Q E x
ends_ok P Q E (Ok a) f h = f a h
ends_ok P Q E (Err e) f h = h

pub ends_err : {A : Type 0} (P : A → Type 0) (E F : Loading → Type 0) (x : Loads A) → ((s : Loading) → E s → F s) → Ends P E x → Ends P F x
ends_err P E F (Ok a) f h = h
ends_err P E F (Err e) f h = f e.0 h

-- nothing is loaded or begun
pub record Idle (s t : Loading) : Type 0 where
  pub done : t.done ≡ s.done
  pub begun : t.begun ≡ s.begun

pub record Opens (s : Loading) (set : ImportSet) (o : Opened × Loading) : Type 0 where
  pub done : o.1.done ≡ s.done
  pub begun : o.1.begun ≡ put_first s.begun (file_of set.library, tt)
  pub name : o.0.form.name ≡ set.library
  pub few : length s.begun < most_libraries

opened_named : (name : LibName) (path : List ℕ) (ds : List PlainDatum) (form : LibraryForm) (o : Opened) → opened name path ds form ≡ Ok o → o.form.name ≡ name
opened_named name path ds form o h = by (same_library form.name name) refl h
  where
    by : (b : Bool) → same_library form.name name ≡ b → (if b then Ok (record { path = path; form = form; «data» = ds }) else Err (Rattle.load_files.specs.Load.differs form)) ≡ Ok o → o.form.name ≡ name
    by true s h =
        let same : ◌≡◌ {A = Opened} (record { path = path; form = form; «data» = ds }) o = cc in
        ap (λ (x : Opened). x.form.name) (sym same) ∙ (same_library_decides form.name name).0 s
    by false s h = absurd (cc)

pub library_named : (name : LibName) (path held : List ℕ) (o : Opened) → library_in name path held ≡ Ok o → o.form.name ≡ name
unfolding library_in
library_named name path held o h = by_data (data_of path held file_nesting) h
  where
    by_form : (ds : List PlainDatum) (r : Result LibraryForm Fault) → (r >>= (λ form. opened name path ds form)) ≡ Ok o → o.form.name ≡ name
    by_form ds (Ok form) h = opened_named name path ds form o h
    by_form ds (Err f) h = absurd (cc)

    by_data : (r : Result (List PlainDatum) Fault) → (r >>= (λ ds. read_library path ds >>= (λ form. opened name path ds form))) ≡ Ok o → o.form.name ≡ name
    by_data (Ok ds) h = by_form ds (read_library path ds) h
    by_data (Err f) h = absurd (cc)

module _ (s : Loading) (set : ImportSet) (few : length s.begun < most_libraries) where
  from_sought : (sources : List Source) (x : Sought) → Ends (Opens s set) (Idle s) (opened_from (with_sources s sources) set x)
  from_sought sources sought.Nowhere = record { done = refl; begun = refl }
  from_sought sources (sought.Longer path) = record { done = refl; begun = refl }
  from_sought sources (sought.Bytes path held) = by (library_in set.library path held) refl
    where
      by : (r : Result Opened Fault) → library_in set.library path held ≡ r
          → Ends (Opens s set) (Idle s) (lifted (with_source (with_sources s sources) path held) r >>= (λ o. begun (with_source (with_sources s sources) path held) (file_of set.library) o))
      by (Ok o) e = record { done = refl; begun = refl; name = library_named set.library path held o e; few = few }
      by (Err f) e = record { done = refl; begun = refl }

pub opens : (files : Paths) (roots : List (List ℕ)) (set : ImportSet) (s : Loading) → Ends (Opens s set) (Idle s) (open_file files roots set s)
unfolding open_file
opens files roots set s = by (nat_le most_libraries (length s.begun)) refl
  where
    by : (b : Bool) → nat_le most_libraries (length s.begun) ≡ b
        → Ends (Opens s set) (Idle s) (if b then Err (s, Rattle.load_files.specs.Load.too_many set) else opened_with s set (look_for files (most s.bytes) (file_of set.library) s.sources roots))
    by true h = record { done = refl; begun = refl }
    by false h =
        let few : length s.begun < most_libraries = grind (arith, h) in
        from_sought s set few (look_for files (most s.bytes) (file_of set.library) s.sources roots).0 (look_for files (most s.bytes) (file_of set.library) s.sources roots).1
