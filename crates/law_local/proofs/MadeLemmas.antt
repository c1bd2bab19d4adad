-- Each record of a run is made behind those before it.
use Rattle.std.proofs.Common.{◌≡◌, ℕ, zero, suc, ◌+◌, List, [], ◌∷◌, ◌++◌, length, Result, Ok, Err, Some, refl, sym, ap, subst, ◌∙◌, arith, append_assoc, append-nil}
use Rattle.std.specs.Prelude.{slice_get}
use Rattle.base_data.specs.Gives.{◌>>=◌}
use Rattle.base_data.specs.declared.fault.Fault.{Fault}
use Rattle.core_language.specs.declared.record.CompiledLibrary.{CompiledLibrary}
use Rattle.load_forms.specs.Form.{library_body}
use Rattle.load_import.specs.Turns.{turns}
use Rattle.load_files.specs.declared.found.Found.{Found}
use Rattle.law_local.specs.Behind.{RunBase, expand_behind, behind_next, records_behind}

module _ (base : RunBase) where
  -- as many records stand before it as its place says
  pub record IsMadeAt (records : List CompiledLibrary) (place : ℕ) (f : Found) (r : CompiledLibrary) : Type 0 where
    pub before : List CompiledLibrary
    pub after : List CompiledLibrary
    pub parts : records ≡ before ++ after
    pub many : length before ≡ place
    pub made : expand_behind base before f (library_body f.opened.«data») ≡ Ok r

  -- the records of some rows, behind those that are made
  record AreMade (done : List CompiledLibrary) (rows : List (List ℕ × Found)) (records : List CompiledLibrary) : Type 0 where
    pub more : List CompiledLibrary
    pub parts : records ≡ done ++ more
    pub as_many : length more ≡ length rows
    pub each : (i : ℕ) (row : List ℕ × Found) (r : CompiledLibrary) → slice_get rows i ≡ Some row → slice_get more i ≡ Some r → IsMadeAt records (length done + i) row.1 r

  module _ (done : List CompiledLibrary) (row : List ℕ × Found) (rows : List (List ℕ × Found)) (records : List CompiledLibrary) (r : CompiledLibrary)
      (here : expand_behind base done row.1 (library_body row.1.opened.«data») ≡ Ok r) (rest : AreMade (done ++ r ∷ []) rows records) where
    whole : records ≡ done ++ r ∷ rest.more
    whole = rest.parts ∙ append_assoc done (r ∷ []) rest.more

    each : (i : ℕ) (x : List ℕ × Found) (y : CompiledLibrary) → slice_get (row ∷ rows) i ≡ Some x → slice_get (r ∷ rest.more) i ≡ Some y → IsMadeAt records (length done + i) x.1 y
    each zero x y h k =
        let same : row ≡ x = cc in
        let is : r ≡ y = cc in
        let many : length done ≡ length done + zero = omega arith in
        subst (λ (z : CompiledLibrary). IsMadeAt records (length done + zero) x.1 z) is
        (subst (λ (z : List ℕ × Found). IsMadeAt records (length done + zero) z.1 r) same
        (record { before = done; after = r ∷ rest.more; parts = whole; many = many; made = here }))
    each (suc i) x y h k =
        let at : length (done ++ r ∷ []) + i ≡ length done + suc i = last_place done i in
        subst (λ (n : ℕ). IsMadeAt records n x.1 y) at (rest.each i x y h k)
      where
        last_place : (xs : List CompiledLibrary) (j : ℕ) → length (xs ++ r ∷ []) + j ≡ length xs + suc j
        last_place [] j = omega arith
        last_place (z ∷ xs) j = let e = last_place xs j in omega (arith, e)

    and_the_rest : AreMade done (row ∷ rows) records
    and_the_rest = record { more = r ∷ rest.more; parts = whole; as_many = ap suc rest.as_many; each = each }

  are_made : (done : List CompiledLibrary) (rows : List (List ℕ × Found)) (records : List CompiledLibrary) → turns (behind_next base) done rows ≡ Ok records → AreMade done rows records
  are_made done [] records h =
      let same : done ≡ records = cc in
      record { more = []; parts = sym same ∙ sym (append-nil done); as_many = refl; each = λ i row r at to. absurd (cc) }
  are_made done (row ∷ rows) records h = by (λ more k. are_made more rows records k) (expand_behind base done row.1 (library_body row.1.opened.«data»)) refl h
    where
      by : ((more : List CompiledLibrary) → turns (behind_next base) more rows ≡ Ok records → AreMade more rows records)
          → (x : Result CompiledLibrary Fault) → expand_behind base done row.1 (library_body row.1.opened.«data») ≡ x
          → ((x >>= (λ r. Ok (done ++ r ∷ []))) >>= (λ more. turns (behind_next base) more rows)) ≡ Ok records → AreMade done (row ∷ rows) records
      by rest (Ok r) e h = and_the_rest done row rows records r e (rest (done ++ r ∷ []) h)
      by rest (Err f) e h = absurd (cc)

  -- each library has its record
  pub as_many_records : (rows : List (List ℕ × Found)) (records : List CompiledLibrary) → records_behind base rows ≡ Ok records → length records ≡ length rows
  as_many_records rows records h = let m = are_made [] rows records h in ap (λ (rs : List CompiledLibrary). length rs) m.parts ∙ m.as_many

  -- and it is made behind those before it
  pub made_at : (rows : List (List ℕ × Found)) (records : List CompiledLibrary) → records_behind base rows ≡ Ok records
      → (i : ℕ) (file : List ℕ) (f : Found) (r : CompiledLibrary) → slice_get rows i ≡ Some (file, f) → slice_get records i ≡ Some r → IsMadeAt records i f r
  made_at rows records h i file f r at to =
      let m = are_made [] rows records h in
      let same : zero + i ≡ i = omega arith in
      subst (λ (n : ℕ). IsMadeAt records n f r) same (m.each i (file, f) r at (subst (λ (rs : List CompiledLibrary). slice_get rs i ≡ Some r) m.parts to))
