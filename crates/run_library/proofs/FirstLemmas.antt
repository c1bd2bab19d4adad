-- The first record of a library: a table gives its place, and where it is needed it is the one that is looked for.
use Rattle.std.proofs.Common.{◌≡◌, ℕ, suc, zero, ◌+◌, ◌<◌, Bool, true, false, cond, List, [], ◌∷◌, ◌++◌, length, take, Option, Some, None, Decides, refl, sym, ap, ◌∙◌, true≢false, arith}
use Rattle.std.specs.Prelude.{slice_get, is_some, if◌then◌else◌}
use Rattle.std.specs.Option.{option_map}
use Rattle.std.proofs.lemmas.Bool.Decides.{same_from_decides}
use Rattle.std.proofs.Math.Seq.{take-append_seam, take-length}
use Rattle.indexmap.specs.IndexMap.{IndexMap, insert_entry}
use Rattle.indexmap.proofs.CallerLemmas.{insert_entry-new}
use Rattle.base_data.specs.Same.{same_library, same_library_decides}
use Rattle.base_data.specs.declared.library.LibName.{LibName}
use Rattle.core_language.specs.declared.record.CompiledLibrary.{CompiledLibrary}
use Rattle.load_files.specs.Found.{places_from, is_marked}
use Rattle.expand_standing.specs.Start.{records_at}
use Rattle.run_library.specs.Imports.{named}
use Rattle.run_library.specs.Chosen.{named_at}
use Rattle.run_library.specs.Records.{first_place, place_in, with_place, ArePlaces, needed_records}
use Rattle.run_library.proofs.NameLemmas.{or_later, first_named}

same_either_way : (a b : LibName) → same_library a b ≡ same_library b a
same_either_way a b =
    let other : Decides (same_library b a) (a ≡ b) = (λ h. sym ((same_library_decides b a).0 h), λ e. (same_library_decides b a).1 (sym e)) in
    same_from_decides (same_library a b) (same_library b a) (same_library_decides a b) other

-- ---- a table of places

abbrev or_else : Option ℕ → Option ℕ → Option ℕ
or_else None b = b
or_else (Some a) b = Some a

or_none : (a : Option ℕ) → or_else a None ≡ a
or_none None = refl
or_none (Some n) = refl

or_some : (a b : Option ℕ) → is_some a ≡ true → or_else a b ≡ a
or_some None b h = absurd (true≢false (sym h))
or_some (Some n) b h = refl

suc_each : (a b : Option ℕ) → option_map suc (or_else a b) ≡ or_else (option_map suc a) (option_map suc b)
suc_each None b = refl
suc_each (Some n) b = refl

suc_if : (c : Bool) (n : ℕ) → option_map suc (if c then Some n else None) ≡ (if c then Some (suc n) else None)
suc_if true n = refl
suc_if false n = refl

abbrev place_if : LibName → LibName → ℕ → Option ℕ
place_if name other place = if same_library name other then Some place else None

module _ (name : LibName) where
  place_more : (rows : List (LibName × ℕ)) (other : LibName) (place : ℕ) → place_in name (rows ++ (other, place) ∷ []) ≡ or_else (place_in name rows) (place_if name other place)
  place_more [] other place = refl
  place_more (e ∷ es) other place = by (same_library name e.0) (place_more es other place)
    where
      by : (b : Bool) → place_in name (es ++ (other, place) ∷ []) ≡ or_else (place_in name es) (place_if name other place)
          → cond b (Some e.1) (place_in name (es ++ (other, place) ∷ [])) ≡ or_else (cond b (Some e.1) (place_in name es)) (place_if name other place)
      by true h = refl
      by false h = h

  first_more : (rs : List CompiledLibrary) (r : CompiledLibrary) → first_place name (rs ++ r ∷ []) ≡ or_else (first_place name rs) (place_if name r.name (length rs))
  first_more [] r = refl
  first_more (x ∷ xs) r = by (same_library name x.name) (first_more xs r)
    where
      by : (b : Bool) → first_place name (xs ++ r ∷ []) ≡ or_else (first_place name xs) (place_if name r.name (length xs))
          → cond b (Some 0) (option_map suc (first_place name (xs ++ r ∷ []))) ≡ or_else (cond b (Some 0) (option_map suc (first_place name xs))) (place_if name r.name (suc (length xs)))
      by true h = refl
      by false h =
          ap (option_map suc) h
          ∙ suc_each (first_place name xs) (place_if name r.name (length xs))
          ∙ ap (or_else (option_map suc (first_place name xs))) (suc_if (same_library name r.name) (length xs))

none_if : (o : Option ℕ) → is_some o ≡ false → o ≡ None
none_if None h = refl
none_if (Some n) h = absurd (true≢false h)

pub put_new : {S : Type 0} (m : IndexMap LibName ℕ S) (name : LibName) (place : ℕ) → is_some (place_in name m.entries) ≡ false
    → insert_entry same_library m.entries name place ≡ with_place m.entries name place
put_new m name place h =
    insert_entry-new same_library m name place (none_if (place_in name m.entries) h)
    ∙ sym (ap (λ b. cond {A = List (LibName × ℕ)} b m.entries (m.entries ++ (name, place) ∷ [])) h)

-- a table is cut back to what it was before a row more
pub taken_back : (rows : List (LibName × ℕ)) (name : LibName) (place : ℕ) → take (length rows) (with_place rows name place) ≡ rows
taken_back rows name place = by (is_some (place_in name rows))
  where
    by : (b : Bool) → take (length rows) (cond b rows (rows ++ (name, place) ∷ [])) ≡ rows
    by true = take-length rows
    by false = take-append_seam rows ((name, place) ∷ [])

-- the table with the row of one record more, if it has no row of that library
pub places_more : (rows : List (LibName × ℕ)) (rs : List CompiledLibrary) (r : CompiledLibrary) → ArePlaces rows rs → ArePlaces (with_place rows r.name (length rs)) (rs ++ r ∷ [])
places_more rows rs r right name = by (is_some (place_in r.name rows)) refl
  where
    here : (b : Bool) → same_library name r.name ≡ b → is_some (place_in r.name rows) ≡ true → or_else (first_place name rs) (cond b (Some (length rs)) None) ≡ first_place name rs
    here false e h = or_none (first_place name rs)
    here true e h = or_some (first_place name rs) (Some (length rs)) (ap is_some (sym (right name) ∙ ap (λ n. place_in n rows) ((same_library_decides name r.name).0 e)) ∙ h)

    by : (b : Bool) → is_some (place_in r.name rows) ≡ b → place_in name (cond b rows (rows ++ (r.name, length rs) ∷ [])) ≡ first_place name (rs ++ r ∷ [])
    by true h = right name ∙ sym (first_more name rs r ∙ here (same_library name r.name) refl h)
    by false h = place_more name rows r.name (length rs) ∙ ap (λ o. or_else o (place_if name r.name (length rs))) (right name) ∙ sym (first_more name rs r)

module _ (rows grown : List (LibName × ℕ)) (rs more : List CompiledLibrary) (r added : CompiledLibrary) (name : LibName) (place : ℕ) where
  pub pushed : ArePlaces rows rs → grown ≡ with_place rows name place → name ≡ r.name → place ≡ length rs → added ≡ r → more ≡ rs ++ added ∷ [] → ArePlaces grown more
  pushed right with named here same is q =
      ap (place_in q) (with ∙ ap (λ n. with_place rows n place) named ∙ ap (with_place rows r.name) here)
      ∙ places_more rows rs r right q
      ∙ sym (ap (first_place q) (is ∙ ap (λ x. rs ++ x ∷ []) same))

-- ---- the record that is looked for

abbrev NotBefore : LibName → List CompiledLibrary → ℕ → Type 0
NotBefore name rs k = (q : ℕ) → q < k → named_at name (slice_get rs q) ≡ None

abbrev IsFirst : LibName → List CompiledLibrary → ℕ → Type 0
IsFirst name rs k = NotBefore name rs k × ((r : CompiledLibrary) × (slice_get rs k ≡ Some r) × (named_at name (slice_get rs k) ≡ Some r))

unnamed : (name : LibName) (r : CompiledLibrary) (b : Bool) → same_library name r.name ≡ b → named_at name (Some r) ≡ (if b then Some r else None)
unnamed name r b e = ap (λ c. if c then Some r else None) (same_either_way r.name name ∙ e)

suc_some : (o : Option ℕ) (k : ℕ) → option_map suc o ≡ Some (suc k) → o ≡ Some k
suc_some None k h = cc
suc_some (Some n) k h = cc

zero_suc : (o : Option ℕ) → option_map suc o ≡ Some 0 → ⊥
zero_suc None h = cc
zero_suc (Some n) h = cc

suc_none : (o : Option ℕ) → option_map suc o ≡ None → o ≡ None
suc_none None h = refl
suc_none (Some n) h = cc

module _ (name : LibName) where
  -- no record is before the first
  first_is : (rs : List CompiledLibrary) (k : ℕ) → first_place name rs ≡ Some k → IsFirst name rs k
  first_is [] k h = cc
  first_is (r ∷ rs) zero h = by (same_library name r.name) refl h
    where
      by : (b : Bool) → same_library name r.name ≡ b → cond b (Some 0) (option_map suc (first_place name rs)) ≡ Some 0 → IsFirst name (r ∷ rs) 0
      by true e h = ((λ q q<0. absurd (omega (arith, q<0))), (r, refl, unnamed name r true e))
      by false e h = absurd (zero_suc (first_place name rs) h)
  first_is (r ∷ rs) (suc k) h = by (same_library name r.name) refl h (λ later. first_is rs k later)
    where
      by : (b : Bool) → same_library name r.name ≡ b → cond b (Some 0) (option_map suc (first_place name rs)) ≡ Some (suc k)
          → (first_place name rs ≡ Some k → IsFirst name rs k) → IsFirst name (r ∷ rs) (suc k)
      by true e h on = cc
      by false e h on = let rest = on (suc_some (first_place name rs) k h) in (before rest.0, rest.1)
        where
          before : NotBefore name rs k → NotBefore name (r ∷ rs) (suc k)
          before none zero q<k = unnamed name r false e
          before none (suc q) q<k = none q (omega (arith, q<k))

  -- a library without a first record has none
  none_is : (rs : List CompiledLibrary) → first_place name rs ≡ None → (q : ℕ) → named_at name (slice_get rs q) ≡ None
  none_is [] h q = refl
  none_is (r ∷ rs) h q = by (same_library name r.name) refl h q (λ later p. none_is rs later p)
    where
      by : (b : Bool) → same_library name r.name ≡ b → cond b (Some 0) (option_map suc (first_place name rs)) ≡ None → (q : ℕ)
          → (first_place name rs ≡ None → (p : ℕ) → named_at name (slice_get rs p) ≡ None) → named_at name (slice_get (r ∷ rs) q) ≡ None
      by true e h q on = cc
      by false e h zero on = unnamed name r false e
      by false e h (suc q) on = on (suc_none (first_place name rs) h) q

module _ (name : LibName) (rs : List CompiledLibrary) where
  none_among : (ps : List ℕ) → ((q : ℕ) → named_at name (slice_get rs q) ≡ None) → named name (records_at rs ps) ≡ None
  none_among [] none = refl
  none_among (p ∷ ps) none =
      first_named name (slice_get rs p) (records_at rs ps)
      ∙ ap (λ o. or_later o (named name (records_at rs ps))) (none p)
      ∙ none_among ps none

  pub not_there : (needs : List Bool) → first_place name rs ≡ None → named name (needed_records rs needs) ≡ None
  not_there needs h = none_among (places_from 0 needs) (none_is name rs h)

  module _ (k : ℕ) (none : NotBefore name rs k) (r : CompiledLibrary) (at : named_at name (slice_get rs k) ≡ Some r) where
    -- the places of marks rise, so that of the first record comes before those of others with its name
    first_among : (ms : List Bool) (i j : ℕ) → i + j ≡ k → slice_get ms j ≡ Some true → named name (records_at rs (places_from i ms)) ≡ Some r
    unfolding places_from
    first_among [] i j e marked = cc
    first_among (m ∷ ms) i zero e marked = by m (cc)
      where
        here : i ≡ k
        here = omega (arith, e)

        by : (m : Bool) → m ≡ true → named name (records_at rs (if m then i ∷ places_from (suc i) ms else places_from (suc i) ms)) ≡ Some r
        by true h =
            first_named name (slice_get rs i) (records_at rs (places_from (suc i) ms))
            ∙ ap (λ p. or_later (named_at name (slice_get rs p)) (named name (records_at rs (places_from (suc i) ms)))) here
            ∙ ap (λ o. or_later o (named name (records_at rs (places_from (suc i) ms)))) at
        by false h = absurd (true≢false (sym h))
    first_among (m ∷ ms) i (suc j) e marked = by m (first_among ms (suc i) j (omega (arith, e)) marked)
      where
        by : (m : Bool) → named name (records_at rs (places_from (suc i) ms)) ≡ Some r → named name (records_at rs (if m then i ∷ places_from (suc i) ms else places_from (suc i) ms)) ≡ Some r
        by false h = h
        by true h =
            first_named name (slice_get rs i) (records_at rs (places_from (suc i) ms))
            ∙ ap (λ o. or_later o (named name (records_at rs (places_from (suc i) ms)))) (none i (omega (arith, e)))
            ∙ h

  marked_at : (o : Option Bool) → is_marked o ≡ true → o ≡ Some true
  marked_at None h = absurd (true≢false (sym h))
  marked_at (Some m) h = ap Some h

  pub first_named_is : (needs : List Bool) (k : ℕ) → first_place name rs ≡ Some k → is_marked (slice_get needs k) ≡ true
      → named name (needed_records rs needs) ≡ slice_get rs k
  first_named_is needs k first marked =
      let is = first_is name rs k first in
      first_among k is.0 is.1.0 is.1.2 needs 0 k (omega arith) (marked_at (slice_get needs k) marked) ∙ sym is.1.1
