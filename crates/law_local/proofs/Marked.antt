-- Which marks the imports of a library set, behind others.
use Rattle.std.proofs.Common.{◌≡◌, ℕ, zero, suc, ◌<◌, Bool, true, false, List, [], ◌∷◌, length, replicate, Option, Some, None, refl, sym, ap, subst, ◌∙◌, inl, inr, arith}
use Rattle.std.specs.Prelude.{◌⊎◌, is_some, slice_get, if◌then◌else◌}
use Rattle.load_builtin.specs.Exports.{exports}
use Rattle.load_file_names.specs.File.{file_of}
use Rattle.load_forms.specs.declared.set.Import.{Import}
use Rattle.load_import.specs.Table.{value_of}
use Rattle.load_import.specs.declared.set.ImportSet.{ImportSet}
use Rattle.load_files.specs.Found.{is_needed_by}
use Rattle.load_files.specs.declared.found.Found.{Found}
use Rattle.law_load.specs.Laws.{Libraries, Needs}
use Rattle.law_load.proofs.MarkLemmas.{length-with_needs, mark_stays, mark_comes, needs_itself, needs_marked, mark_cases, none_set}
use Rattle.law_local.specs.Recorded.{marks_of, with_import, with_imports, unmarked}

-- an import of a library among these brings a place
pub record IsMarkedFor (rows : Libraries) (set : ImportSet) (q : ℕ) : Type 0 where
  pub not_given : is_some (exports set.library) ≡ false
  pub library : Found
  pub there : value_of (file_of set.library) rows ≡ Some library
  pub brought : (q ≡ library.place) ⊎ Needs library q

pub record IsMarkedBy (rows : Libraries) (is : List Import) (q : ℕ) : Type 0 where
  pub n : ℕ
  pub import : Import
  pub among : slice_get is n ≡ Some import
  pub marked : IsMarkedFor rows import.set q

length-marks_of : (needs : List Bool) (o : Option Found) → length (marks_of needs o) ≡ length needs
length-marks_of needs None = refl
length-marks_of needs (Some found) = length-with_needs needs found

module _ (rows : Libraries) where
  length-with_import : (needs : List Bool) (set : ImportSet) → length (with_import rows needs set) ≡ length needs
  length-with_import needs set = by (is_some (exports set.library))
    where
      by : (b : Bool) → length (if b then needs else marks_of needs (value_of (file_of set.library) rows)) ≡ length needs
      by true = refl
      by false = length-marks_of needs (value_of (file_of set.library) rows)

  -- a mark stays
  import_keeps : (needs : List Bool) (set : ImportSet) (q : ℕ) → slice_get needs q ≡ Some true → slice_get (with_import rows needs set) q ≡ Some true
  import_keeps needs set q h = by (is_some (exports set.library))
    where
      by_value : (o : Option Found) → slice_get (marks_of needs o) q ≡ Some true
      by_value None = h
      by_value (Some found) = mark_stays needs found q h

      by : (b : Bool) → slice_get (if b then needs else marks_of needs (value_of (file_of set.library) rows)) q ≡ Some true
      by true = h
      by false = by_value (value_of (file_of set.library) rows)

  imports_keep : (needs : List Bool) (is : List Import) (q : ℕ) → slice_get needs q ≡ Some true → slice_get (with_imports rows needs is) q ≡ Some true
  unfolding with_imports
  imports_keep needs [] q h = h
  imports_keep needs (i ∷ is) q h = imports_keep (with_import rows needs i.set) is q (import_keeps needs i.set q h)

  -- a mark comes
  import_marks : (needs : List Bool) (set : ImportSet) (q : ℕ) → q < length needs → IsMarkedFor rows set q → slice_get (with_import rows needs set) q ≡ Some true
  import_marks needs set q within m =
      ap (λ b. slice_get (if b then needs else marks_of needs (value_of (file_of set.library) rows)) q) m.not_given
      ∙ ap (λ o. slice_get (marks_of needs o) q) m.there
      ∙ mark_comes needs m.library q within (elim m.brought [
        | inl e ↦ subst (λ p. is_needed_by m.library p ≡ true) (sym e) (needs_itself m.library)
        | inr n ↦ needs_marked m.library q n
      ])

  pub imports_mark : (needs : List Bool) (is : List Import) (q n : ℕ) (i : Import) → q < length needs → slice_get is n ≡ Some i → IsMarkedFor rows i.set q
      → slice_get (with_imports rows needs is) q ≡ Some true
  unfolding with_imports
  imports_mark needs [] q n i within h m = absurd (cc)
  imports_mark needs (j ∷ is) q zero i within h m =
      let same : j ≡ i = cc in
      imports_keep (with_import rows needs j.set) is q (import_marks needs j.set q within (subst (λ (x : Import). IsMarkedFor rows x.set q) (sym same) m))
  imports_mark needs (j ∷ is) q (suc n) i within h m =
      let wide = length-with_import needs j.set in
      imports_mark (with_import rows needs j.set) is q n i (omega (arith, within, wide)) h m

  -- where a mark comes from
  import_cases : (needs : List Bool) (set : ImportSet) (q : ℕ) → slice_get (with_import rows needs set) q ≡ Some true → (slice_get needs q ≡ Some true) ⊎ IsMarkedFor rows set q
  import_cases needs set q h = by (is_some (exports set.library)) refl h
    where
      Cases : Type 0
      Cases = (slice_get needs q ≡ Some true) ⊎ IsMarkedFor rows set q

      by_value : (o : Option Found) → is_some (exports set.library) ≡ false → value_of (file_of set.library) rows ≡ o → slice_get (marks_of needs o) q ≡ Some true → Cases
      by_value None e v h = inl h
      by_value (Some found) e v h = elim (mark_cases needs found q h) [
        | inl old ↦ inl old
        | inr new ↦ inr (record { not_given = e; library = found; there = v; brought = new })
      ]

      by : (b : Bool) → is_some (exports set.library) ≡ b → slice_get (if b then needs else marks_of needs (value_of (file_of set.library) rows)) q ≡ Some true → Cases
      by true e h = inl h
      by false e h = by_value (value_of (file_of set.library) rows) e refl h

  pub imports_cases : (needs : List Bool) (is : List Import) (q : ℕ) → slice_get (with_imports rows needs is) q ≡ Some true → (slice_get needs q ≡ Some true) ⊎ IsMarkedBy rows is q
  unfolding with_imports
  imports_cases needs [] q h = inl h
  imports_cases needs (i ∷ is) q h = elim (imports_cases (with_import rows needs i.set) is q h) [
    | inl first ↦ elim (import_cases needs i.set q first) [
      | inl old ↦ inl old
      | inr m ↦ inr (record { n = zero; import = i; among = refl; marked = m })
    ]
    | inr m ↦ inr (record { n = suc m.n; import = m.import; among = m.among; marked = m.marked })
  ]

-- ---- no marks

pub length-unmarked : (n : ℕ) → length (unmarked n) ≡ n
unfolding unmarked
length-unmarked n = go n
  where
    go : (k : ℕ) → length (replicate k false) ≡ k
    go zero = refl
    go (suc k) = ap suc (go k)

pub none_marked : (n p : ℕ) → slice_get (unmarked n) p ≡ Some true → ⊥
unfolding unmarked
none_marked n p h = none_set n p h
