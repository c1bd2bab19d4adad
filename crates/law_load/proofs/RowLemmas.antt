-- Rows of a table, by their places and by their names.
use Rattle.std.proofs.Common.{◌≡◌, ℕ, zero, suc, Bool, true, false, cond, List, [], ◌∷◌, ◌++◌, length, Some, None, refl, sym, ap, ◌∙◌, inl, inr, true≢false}
use Rattle.std.specs.Prelude.{◌⊎◌, is_some, slice_get, if◌then◌else◌}
use Rattle.base_data.specs.Same.{texts_decides}
use Rattle.load_import.specs.Table.{same_text, value_of, put_first}

-- ---- by places

pub at_first : {X : Type 0} (xs ys : List X) (i : ℕ) (x : X) → slice_get xs i ≡ Some x → slice_get (xs ++ ys) i ≡ Some x
at_first [] ys i x h = cc
at_first (y ∷ xs) ys zero x h = h
at_first (y ∷ xs) ys (suc i) x h = at_first xs ys i x h

pub at_end : {X : Type 0} (xs : List X) (y : X) → slice_get (xs ++ y ∷ []) (length xs) ≡ Some y
at_end [] y = refl
at_end (x ∷ xs) y = at_end xs y

pub at_cases : {X : Type 0} (xs : List X) (y : X) (i : ℕ) (x : X) → slice_get (xs ++ y ∷ []) i ≡ Some x → (slice_get xs i ≡ Some x) ⊎ ((i ≡ length xs) × (y ≡ x))
at_cases [] y zero x h = inr (refl, cc)
at_cases [] y (suc i) x h = absurd (cc)
at_cases (z ∷ xs) y zero x h = inl h
at_cases (z ∷ xs) y (suc i) x h = elim (at_cases xs y i x h) [ inl k ↦ inl k | inr k ↦ inr (ap suc k.0, k.1) ]

pub at_parts : {X : Type 0} (xs ys : List X) (i : ℕ) (x : X) → slice_get (xs ++ ys) i ≡ Some x → (slice_get xs i ≡ Some x) ⊎ ((j : ℕ) × (slice_get ys j ≡ Some x))
at_parts [] ys i x h = inr (i, h)
at_parts (z ∷ xs) ys zero x h = inl h
at_parts (z ∷ xs) ys (suc i) x h = at_parts xs ys i x h

-- ---- by names

abbrev pub IsIn : {V : Type 0} → List (List ℕ × V) → List ℕ → Type 0
IsIn rows name = is_some (value_of name rows) ≡ true

abbrev pub IsNotIn : {V : Type 0} → List (List ℕ × V) → List ℕ → Type 0
IsNotIn rows name = is_some (value_of name rows) ≡ false

same_of : (a b : List ℕ) → same_text a b ≡ true → a ≡ b
same_of a b h = (texts_decides a b).0 h

same_self : (a b : List ℕ) → a ≡ b → same_text a b ≡ true
same_self a b h = (texts_decides a b).1 h

-- the row of a value
pub row_of : {V : Type 0} (name : List ℕ) (rows : List (List ℕ × V)) (v : V) → value_of name rows ≡ Some v → (i : ℕ) × (slice_get rows i ≡ Some (name, v))
row_of name [] v h = absurd (cc)
row_of {V} name (e ∷ es) v h = by (same_text name e.0) refl h (row_of name es v)
  where
    Row : Type 0
    Row = (i : ℕ) × (slice_get (e ∷ es) i ≡ Some (name, v))

    by : (b : Bool) → same_text name e.0 ≡ b → cond b (Some e.1) (value_of name es) ≡ Some v → (value_of name es ≡ Some v → (i : ℕ) × (slice_get es i ≡ Some (name, v))) → Row
    by true s h rest =
        let value : e.1 ≡ v = cc in
        (zero, λ i. Some (sym (same_of name e.0 s) i, value i))
    by false s h rest = let r = rest h in (suc r.0, r.1)

pub no_row : {V : Type 0} (name : List ℕ) (rows : List (List ℕ × V)) (i : ℕ) (v : V) → IsNotIn rows name → slice_get rows i ≡ Some (name, v) → ⊥
no_row name [] i v h at = cc
no_row {V} name (e ∷ es) i v h at = by (same_text name e.0) refl h i at (no_row name es)
  where
    by : (b : Bool) → same_text name e.0 ≡ b → is_some (cond b (Some e.1) (value_of name es)) ≡ false → (i : ℕ) → slice_get (e ∷ es) i ≡ Some (name, v)
        → ((i : ℕ) (v : V) → IsNotIn es name → slice_get es i ≡ Some (name, v) → ⊥) → ⊥
    by true s h i at rest = cc
    by false s h zero at rest =
        let same : ◌≡◌ {A = List ℕ × V} e (name, v) = cc in
        true≢false (sym (same_self name e.0 (sym (ap (λ (r : List ℕ × V). r.0) same))) ∙ s)
    by false s h (suc i) at rest = rest i v h at

-- ---- a row more

pub put_new : {V : Type 0} (rows : List (List ℕ × V)) (name : List ℕ) (v : V) → IsNotIn rows name → put_first rows (name, v) ≡ rows ++ (name, v) ∷ []
put_new rows name v h = ap (λ b. if b then rows else rows ++ (name, v) ∷ []) h

pub still_in : {V : Type 0} (rows more : List (List ℕ × V)) (name : List ℕ) → IsIn rows name → IsIn (rows ++ more) name
still_in [] more name h = cc
still_in (e ∷ es) more name h = by (same_text name e.0) h (still_in es more name)
  where
    by : (b : Bool) → is_some (cond b (Some e.1) (value_of name es)) ≡ true → (IsIn es name → IsIn (es ++ more) name) → is_some (cond b (Some e.1) (value_of name (es ++ more))) ≡ true
    by true h rest = refl
    by false h rest = rest h

pub new_in : {V : Type 0} (rows : List (List ℕ × V)) (name : List ℕ) (v : V) → IsIn (rows ++ (name, v) ∷ []) name
new_in [] name v = ap (λ b. is_some (cond b (Some v) None)) (same_self name name refl)
new_in (e ∷ es) name v = by (same_text name e.0) (new_in es name v)
  where
    by : (b : Bool) → IsIn (es ++ (name, v) ∷ []) name → is_some (cond b (Some e.1) (value_of name (es ++ (name, v) ∷ []))) ≡ true
    by true rest = refl
    by false rest = rest

pub still_not_in : {V : Type 0} (rows : List (List ℕ × V)) (name other : List ℕ) (v : V) → IsNotIn rows name → (name ≡ other → ⊥) → IsNotIn (rows ++ (other, v) ∷ []) name
still_not_in [] name other v h apart = by (same_text name other) refl
  where
    by : (b : Bool) → same_text name other ≡ b → is_some (cond b (Some v) None) ≡ false
    by true s = absurd (apart (same_of name other s))
    by false s = refl
still_not_in (e ∷ es) name other v h apart = by (same_text name e.0) h (λ k. still_not_in es name other v k apart)
  where
    by : (b : Bool) → is_some (cond b (Some e.1) (value_of name es)) ≡ false → (IsNotIn es name → IsNotIn (es ++ (other, v) ∷ []) name)
        → is_some (cond b (Some e.1) (value_of name (es ++ (other, v) ∷ []))) ≡ false
    by true h rest = h
    by false h rest = rest h
