-- A path where a file is is read once, since a library that is begun isn't opened again.
use Rattle.std.proofs.Common.{◌≡◌, ℕ, zero, suc, Bool, true, false, List, [], ◌∷◌, ◌++◌, length, Result, Ok, Err, Option, Some, None, refl, sym, ap, subst, ◌∙◌, inl, inr, arith, true≢false}
use Rattle.std.specs.Prelude.{◌⊎◌, is_some, slice_get, nat_le, if◌then◌else◌}
use Rattle.std.proofs.lemmas.List.{append-nil}
use Rattle.base_data.specs.Gives.{◌>>=◌}
use Rattle.base_data.specs.declared.fault.Fault.{Fault}
use Rattle.base_data.specs.declared.library.LibName.{LibName}
use Rattle.load_file_names.specs.File.{file_of}
use Rattle.load_forms.specs.declared.form.LibraryForm.{LibraryForm}
use Rattle.load_import.specs.declared.set.ImportSet.{ImportSet}
use Rattle.base_outside.specs.Contents.{Paths, at_path}
use Rattle.load_files.specs.Found.{most_libraries, held_at, with_source, with_sources}
use Rattle.load_files.specs.Load.{lifted, too_many, most, look_for, library_in, program_in, begun, opened_from, opened_with, open_file}
use Rattle.load_files.specs.declared.found.Source.{Source}
use Rattle.load_files.specs.declared.found.Opened.{Opened}
use Rattle.load_files.specs.declared.found.Loading.{Loading}
use Rattle.load_files.specs.declared.search.Sought.{Sought}
use Rattle.load_files.specs.declared.search.Sought.TheVariants as sought
use Rattle.law_load.specs.Sources.{AreAsHeld, AreFoundOnce, AreFoundOnceButLast}
use Rattle.law_load.proofs.RowLemmas.{at_cases, at_parts, IsIn, IsNotIn, put_new, still_in, new_in}
use Rattle.law_load.proofs.Invariant.{Begun}
use Rattle.law_load.proofs.OpenLemmas.{Ends, library_named}
use Rattle.law_load.proofs.SourceLemmas.{library_is, library_not_program}
use Rattle.law_load.proofs.LookLemmas.{AreAbsent, Looked, looks}

-- ---- what was read so far

pub record IsLibrary (begun : Begun) (path held : List ℕ) : Type 0 where
  pub name : LibName
  pub opened : Opened
  pub read : library_in name path held ≡ Ok opened
  pub among : IsIn begun (file_of name)

pub record IsProgram (path held : List ℕ) : Type 0 where
  pub opened : Opened
  pub read : program_in path held ≡ Ok opened

pub record Reads (files : Paths) (begun : Begun) (sources : List Source) : Type 0 where
  pub as_held : AreAsHeld files sources
  pub once : AreFoundOnce sources
  pub from : (i : ℕ) (a : Source) (held : List ℕ) → slice_get sources i ≡ Some a → a.held ≡ Some held → IsProgram a.path held ⊎ IsLibrary begun a.path held

-- where loading stops
pub record ReadsUntil (files : Paths) (sources : List Source) : Type 0 where
  pub as_held : AreAsHeld files sources
  pub once : AreFoundOnceButLast sources

pub reads_until : (files : Paths) (begun : Begun) (sources : List Source) → Reads files begun sources → ReadsUntil files sources
reads_until files begun sources r = record { as_held = r.as_held; once = record { first = sources; last = []; parts = sym (append-nil sources); at_most_one = omega arith; once = r.once } }

held_with : (files : Paths) (sources more : List Source) → AreAsHeld files sources → AreAsHeld files more → AreAsHeld files (sources ++ more)
held_with files sources more h k i a at = elim (at_parts sources more i a at) [ inl x ↦ h i a x | inr x ↦ k x.0 a x.1 ]

pub held_one : (files : Paths) (path held : List ℕ) → at_path files path ≡ Some held → AreAsHeld files (held_at path held ∷ [])
held_one files path held e zero a at = let same : held_at path held ≡ a = cc in subst (λ (x : Source). at_path files x.path ≡ x.held) same e
held_one files path held e (suc i) a at = absurd (cc)

-- the last one may have been read before
pub until_one : (files : Paths) (begun : Begun) (sources : List Source) (path held : List ℕ) → at_path files path ≡ Some held → Reads files begun sources → ReadsUntil files (sources ++ held_at path held ∷ [])
until_one files begun sources path held e r = record {
  as_held = held_with files sources (held_at path held ∷ []) r.as_held (held_one files path held e);
  once = record { first = sources; last = held_at path held ∷ []; parts = refl; at_most_one = omega arith; once = r.once };
}

-- ---- paths where no file is

module _ (files : Paths) (begun : Begun) (sources more : List Source) (absent : AreAbsent files more) (r : Reads files begun sources) where
  none_found : (j : ℕ) (b : Source) (P : Type 0) → slice_get more j ≡ Some b → (held : List ℕ) → at_path files b.path ≡ Some held → P
  none_found j b P at held e = let none = (absent j b at).1 in absurd (cc)

  held_of : (o : Option (List ℕ)) → is_some o ≡ true → (held : List ℕ) × (o ≡ Some held)
  held_of None h = absurd (cc)
  held_of (Some held) h = (held, refl)

  once_still : AreFoundOnce (sources ++ more)
  once_still i j a b at to same found = elim (at_parts sources more i a at) [
    | inl x ↦ elim (at_parts sources more j b to) [
      | inl y ↦ r.once i j a b x y same found
      | inr y ↦ let h = held_of a.held found in none_found y.0 b (i ≡ j) y.1 h.0 (ap (at_path files) (sym same) ∙ r.as_held i a x ∙ h.1)
    ]
    | inr x ↦ let none = (absent x.0 a x.1).0 in absurd (true≢false (sym found ∙ ap is_some none))
  ]

  pub with_absent : Reads files begun (sources ++ more)
  with_absent = record {
    as_held = held_with files sources more r.as_held (λ i a at. let h = absent i a at in h.1 ∙ sym h.0);
    once = once_still;
    from = λ i a held at e. elim (at_parts sources more i a at) [ inl x ↦ r.from i a held x e | inr x ↦ let h = (absent x.0 a x.1).0 in absurd (cc) ];
  }

-- ---- the file of a library that isn't begun

module _ (files : Paths) (begun : Begun) (sources : List Source) (r : Reads files begun sources) (name : LibName) (path held : List ℕ) (o : Opened)
    (there : at_path files path ≡ Some held) (read : library_in name path held ≡ Ok o) (new : IsNotIn begun (file_of name)) where
  -- the library of a file has one name
  not_library : IsLibrary begun path held → ⊥
  not_library l =
      let same : o.form ≡ l.opened.form = same_form (sym (library_is name path held o read) ∙ library_is l.name path held l.opened l.read) in
      let names : l.name ≡ name = sym (library_named l.name path held l.opened l.read) ∙ ap (λ (f : LibraryForm). f.name) (sym same) ∙ library_named name path held o read in
      true≢false (sym (subst (λ (n : LibName). IsIn begun (file_of n)) names l.among) ∙ new)
    where
      same_form : ◌≡◌ {A = Result LibraryForm Fault} (Ok o.form) (Ok l.opened.form) → o.form ≡ l.opened.form
      same_form h = cc

  not_read : (i : ℕ) (a : Source) (P : Type 0) → slice_get sources i ≡ Some a → a.path ≡ path → P
  not_read i a P at e =
      let holds : a.held ≡ Some held = sym (r.as_held i a at) ∙ ap (at_path files) e ∙ there in
      elim (r.from i a held at holds) [
        | inl p ↦ absurd (library_not_program path held o.form p.opened (library_is name path held o read) (subst (λ q. program_in q held ≡ Ok p.opened) e p.read))
        | inr l ↦ absurd (not_library (subst (λ q. IsLibrary begun q held) e l))
      ]

  one : (j : ℕ) (b : Source) → slice_get (held_at path held ∷ []) j ≡ Some b → held_at path held ≡ b
  one zero b h = cc
  one (suc j) b h = absurd (cc)

  once_with : AreFoundOnce (sources ++ held_at path held ∷ [])
  once_with i j a b at to same found = elim (at_cases sources (held_at path held) i a at) [
    | inl x ↦ elim (at_cases sources (held_at path held) j b to) [
      | inl y ↦ r.once i j a b x y same found
      | inr y ↦ not_read i a (i ≡ j) x (same ∙ ap (λ (s : Source). s.path) (sym y.1))
    ]
    | inr x ↦ elim (at_cases sources (held_at path held) j b to) [
      | inl y ↦ not_read j b (i ≡ j) y (sym same ∙ ap (λ (s : Source). s.path) (sym x.1))
      | inr y ↦ x.0 ∙ sym y.0
    ]
  ]

  still_from : (p h : List ℕ) → IsProgram p h ⊎ IsLibrary begun p h → IsProgram p h ⊎ IsLibrary (begun ++ (file_of name, tt) ∷ []) p h
  still_from p h (inl x) = inl x
  still_from p h (inr x) = inr (record { name = x.name; opened = x.opened; read = x.read; among = still_in begun ((file_of name, tt) ∷ []) (file_of x.name) x.among })

  itself : (a : Source) (h : List ℕ) → held_at path held ≡ a → a.held ≡ Some h → IsProgram a.path h ⊎ IsLibrary (begun ++ (file_of name, tt) ∷ []) a.path h
  itself a h same e =
      let bytes_are : ◌≡◌ {A = Option (List ℕ)} (Some held) (Some h) = ap (λ (s : Source). s.held) same ∙ e in
      let bytes_same : held ≡ h = cc in
      inr (record {
        name = name;
        opened = o;
        read = subst (λ k. library_in name a.path k ≡ Ok o) bytes_same (subst (λ (s : Source). library_in name s.path held ≡ Ok o) same read);
        among = new_in begun (file_of name) tt;
      })

  pub with_library : Reads files (begun ++ (file_of name, tt) ∷ []) (sources ++ held_at path held ∷ [])
  with_library = record {
    as_held = held_with files sources (held_at path held ∷ []) r.as_held (held_one files path held there);
    once = once_with;
    from = λ i a h at e. elim (at_cases sources (held_at path held) i a at) [ inl x ↦ still_from a.path h (r.from i a h x e) | inr x ↦ itself a h x.1 e ];
  }

-- ---- loading

module _ (files : Paths) where
  pub stops_well : (s : Loading) → Reads files s.begun s.sources → ReadsUntil files s.sources
  stops_well s r = reads_until files s.begun s.sources r

  module _ (s : Loading) (set : ImportSet) (reads : Reads files s.begun s.sources) (new : IsNotIn s.begun (file_of set.library)) where
    looked_well : (sources : List Source) (x : Sought) → Looked files s.sources (sources, x) → Reads files s.begun sources
    looked_well sources x l = subst (λ (ss : List Source). Reads files s.begun ss) (sym l.added) (with_absent files s.begun s.sources l.more l.absent reads)

    from_sought : (sources : List Source) (x : Sought) → Looked files s.sources (sources, x)
        → Ends (λ (o : Opened × Loading). Reads files o.1.begun o.1.sources) (λ t. ReadsUntil files t.sources) (opened_from (with_sources s sources) set x)
    from_sought sources sought.Nowhere l = reads_until files s.begun sources (looked_well sources sought.Nowhere l)
    from_sought sources (sought.Longer path) l = reads_until files s.begun sources (looked_well sources (sought.Longer path) l)
    from_sought sources (sought.Bytes path held) l = by (library_in set.library path held) refl
      where
        by : (r : Result Opened Fault) → library_in set.library path held ≡ r
            → Ends (λ (o : Opened × Loading). Reads files o.1.begun o.1.sources) (λ t. ReadsUntil files t.sources)
            (lifted (with_source (with_sources s sources) path held) r >>= (λ o. begun (with_source (with_sources s sources) path held) (file_of set.library) o))
        by (Ok o) e =
            subst (λ (b : Begun). Reads files b (sources ++ held_at path held ∷ [])) (sym (put_new s.begun (file_of set.library) tt new))
            (with_library files s.begun sources (looked_well sources (sought.Bytes path held) l) set.library path held o l.there e new)
        by (Err f) e = until_one files s.begun sources path held l.there (looked_well sources (sought.Bytes path held) l)

    pub opens_well : (roots : List (List ℕ)) → Ends (λ (o : Opened × Loading). Reads files o.1.begun o.1.sources) (λ t. ReadsUntil files t.sources) (open_file files roots set s)
    unfolding open_file
    opens_well roots = by (nat_le most_libraries (length s.begun))
      where
        by : (b : Bool) → Ends (λ (o : Opened × Loading). Reads files o.1.begun o.1.sources) (λ t. ReadsUntil files t.sources)
            (if b then Err (s, too_many set) else opened_with s set (look_for files (most s.bytes) (file_of set.library) s.sources roots))
        by true = stops_well s reads
        by false =
            from_sought (look_for files (most s.bytes) (file_of set.library) s.sources roots).0 (look_for files (most s.bytes) (file_of set.library) s.sources roots).1
            (looks files (most s.bytes) (file_of set.library) s.sources roots)
