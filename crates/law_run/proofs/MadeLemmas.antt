-- Each record of a run is made behind those before it.
use Rattle.std.proofs.Common.{◌≡◌, ℕ, zero, suc, ◌+◌, List, [], ◌∷◌, ◌++◌, length, Result, Ok, Err, Some, refl, sym, ap, subst, ◌∙◌, arith, append_assoc, append-nil}
use Rattle.std.specs.Prelude.{slice_get}
use Rattle.base_data.specs.Gives.{◌>>=◌}
use Rattle.base_data.specs.declared.fault.Fault.{Fault}
use Rattle.core_language.specs.declared.record.CompiledLibrary.{CompiledLibrary}
use Rattle.run_derived.specs.Derived.{derived_record}
use Rattle.eval_code.specs.Codes.{Codes}
use Rattle.load_forms.specs.Form.{library_body}
use Rattle.load_import.specs.Turns.{turns}
use Rattle.run_library.specs.Loaded.{expand_found, expand_next, all_records}
use Rattle.load_files.specs.declared.found.Found.{Found}

-- as many records stand before it as its place says
pub record IsMadeAt (prelude : Result Codes Fault) (records : List CompiledLibrary) (place : ℕ) (f : Found) (r : CompiledLibrary) : Type 0 where
  pub before : List CompiledLibrary
  pub after : List CompiledLibrary
  pub parts : records ≡ before ++ after
  pub many : length before ≡ place
  pub made : expand_found prelude before f (library_body f.opened.«data») ≡ Ok r

-- the records of some rows, behind those that are made
record AreMade (prelude : Result Codes Fault) (done : List CompiledLibrary) (rows : List (List ℕ × Found)) (records : List CompiledLibrary) : Type 0 where
  pub more : List CompiledLibrary
  pub parts : records ≡ done ++ more
  pub as_many : length more ≡ length rows
  pub each : (i : ℕ) (row : List ℕ × Found) (r : CompiledLibrary) → slice_get rows i ≡ Some row → slice_get more i ≡ Some r → IsMadeAt prelude records (length done + i) row.1 r

module _ (prelude : Result Codes Fault) (done : List CompiledLibrary) (row : List ℕ × Found) (rows : List (List ℕ × Found)) (records : List CompiledLibrary) (r : CompiledLibrary)
    (here : expand_found prelude done row.1 (library_body row.1.opened.«data») ≡ Ok r) (rest : AreMade prelude (done ++ r ∷ []) rows records) where
  whole : records ≡ done ++ r ∷ rest.more
  whole = rest.parts ∙ append_assoc done (r ∷ []) rest.more

  each : (i : ℕ) (x : List ℕ × Found) (y : CompiledLibrary) → slice_get (row ∷ rows) i ≡ Some x → slice_get (r ∷ rest.more) i ≡ Some y → IsMadeAt prelude records (length done + i) x.1 y
  each zero x y h k =
      let same : row ≡ x = cc in
      let is : r ≡ y = cc in
      let many : length done ≡ length done + zero = omega arith in
      subst (λ (z : CompiledLibrary). IsMadeAt prelude records (length done + zero) x.1 z) is
      (subst (λ (z : List ℕ × Found). IsMadeAt prelude records (length done + zero) z.1 r) same
      (record { before = done; after = r ∷ rest.more; parts = whole; many = many; made = here }))
  each (suc i) x y h k =
      let at : length (done ++ r ∷ []) + i ≡ length done + suc i = last_place done i in
      subst (λ (n : ℕ). IsMadeAt prelude records n x.1 y) at (rest.each i x y h k)
    where
      last_place : (xs : List CompiledLibrary) (j : ℕ) → length (xs ++ r ∷ []) + j ≡ length xs + suc j
      last_place [] j = omega arith
      last_place (z ∷ xs) j = let e = last_place xs j in omega (arith, e)

  and_the_rest : AreMade prelude done (row ∷ rows) records
  and_the_rest = record { more = r ∷ rest.more; parts = whole; as_many = ap suc rest.as_many; each = each }

are_made : (prelude : Result Codes Fault) (done : List CompiledLibrary) (rows : List (List ℕ × Found)) (records : List CompiledLibrary) → turns (expand_next prelude) done rows ≡ Ok records → AreMade prelude done rows records
are_made prelude done [] records h =
    let same : done ≡ records = cc in
    record { more = []; parts = sym same ∙ sym (append-nil done); as_many = refl; each = λ i row r at to. absurd (cc) }
are_made prelude done (row ∷ rows) records h = by (λ more k. are_made prelude more rows records k) (expand_found prelude done row.1 (library_body row.1.opened.«data»)) refl h
  where
    by : ((more : List CompiledLibrary) → turns (expand_next prelude) more rows ≡ Ok records → AreMade prelude more rows records)
        → (x : Result CompiledLibrary Fault) → expand_found prelude done row.1 (library_body row.1.opened.«data») ≡ x
        → ((x >>= (λ r. Ok (done ++ r ∷ []))) >>= (λ more. turns (expand_next prelude) more rows)) ≡ Ok records → AreMade prelude done (row ∷ rows) records
    by rest (Ok r) e h = and_the_rest prelude done row rows records r e (rest (done ++ r ∷ []) h)
    by rest (Err f) e h = absurd (cc)

-- The record of the derived library comes first; each other library has its record, which is made behind those before it.
pub record IsMade (prelude : Result Codes Fault) (rows : List (List ℕ × Found)) (records : List CompiledLibrary) : Type 0 where
  pub derived : CompiledLibrary
  pub others : List CompiledLibrary
  pub parts : records ≡ derived ∷ others
  pub made : derived_record prelude ≡ Ok derived
  pub as_many : length others ≡ length rows
  pub each : (i : ℕ) (file : List ℕ) (f : Found) (r : CompiledLibrary) → slice_get rows i ≡ Some (file, f) → slice_get others i ≡ Some r → IsMadeAt prelude (derived ∷ others) (suc i) f r

pub all_made : (prelude : Result Codes Fault) (rows : List (List ℕ × Found)) (records : List CompiledLibrary) → all_records prelude rows ≡ Ok records → IsMade prelude rows records
all_made prelude rows records h = by (derived_record prelude) refl h
  where
    by : (x : Result CompiledLibrary Fault) → derived_record prelude ≡ x → (x >>= (λ d. turns (expand_next prelude) (d ∷ []) rows)) ≡ Ok records → IsMade prelude rows records
    by (Ok d) e h =
        let m = are_made prelude (d ∷ []) rows records h in
        record {
          derived = d;
          others = m.more;
          parts = m.parts;
          made = e;
          as_many = m.as_many;
          each = λ i file f r at to.
              let same : length (d ∷ []) + i ≡ suc i = omega arith in
              subst (λ (rs : List CompiledLibrary). IsMadeAt prelude rs (suc i) f r) m.parts (subst (λ (n : ℕ). IsMadeAt prelude records n f r) same (m.each i (file, f) r at to));
        }
    by (Err f) e h = absurd (cc)
