-- Look-ups in tables.
use Rattle.std.proofs.Common.{◌≡◌, ◌∙◌, sym, ap, true≢false, ℕ, cond}
use Rattle.std.specs.Prelude.{Bool, true, false, List, [], ◌∷◌, ◌++◌, Option, None, Some, is_some, nat_eq, refl, map, if◌then◌else◌}
use Rattle.std.specs.Borrow.{Bor}
use Rattle.std.specs.Cmp.Lexicographic.{pointwise}
use Rattle.std.specs.Map.{lookup}
use Rattle.std.specs.Option.{option_copied}
use Rattle.indexmap.specs.IndexMap.{IndexMap, insert_entry}
use Rattle.indexmap.proofs.CallerLemmas.{insert_entry-new}
use Rattle.base_data.specs.Same.{texts_decides}
use Rattle.load_import.specs.Table.{same_text, value_of, put_first, put_all}

pub is_some-copied : {A : Type 0} (o : Option (Bor A)) → is_some o ≡ is_some (option_copied o)
is_some-copied None = refl
is_some-copied (Some x) = refl

none_if : {A : Type 0} (o : Option A) → is_some o ≡ false → o ≡ None
none_if None h = refl
none_if (Some x) h = absurd (true≢false h)

-- a name without a value: its pair goes last
pub put_new : {V S : Type 0} (m : IndexMap (List ℕ) V S) (rows : List (List ℕ × V)) (name : List ℕ) (value : V) → m.entries ≡ rows → is_some (value_of name rows) ≡ false
    → insert_entry same_text m.entries name value ≡ put_first rows (name, value)
put_new {V} m rows name value is h =
    let none : value_of name m.entries ≡ None = none_if (value_of name m.entries) (ap (λ es. is_some (value_of name es)) is ∙ h) in
    insert_entry-new same_text m name value none ∙ ap (λ es. es ++ (name, value) ∷ []) is
    ∙ sym (ap (λ b. cond {A = List (List ℕ × V)} b rows (rows ++ (name, value) ∷ [])) h)

pub put_kept : {V : Type 0} (rows : List (List ℕ × V)) (row : List ℕ × V) → is_some (value_of row.0 rows) ≡ true → rows ≡ put_first rows row
put_kept {V} rows row h = sym (ap (λ b. cond {A = List (List ℕ × V)} b rows (rows ++ row ∷ [])) h)

abbrev pub or_else : {A : Type 0} → Option A → Option A → Option A
or_else None b = b
or_else (Some a) b = Some a

pub or_else-assoc : {A : Type 0} (a b c : Option A) → or_else (or_else a b) c ≡ or_else a (or_else b c)
or_else-assoc None b c = refl
or_else-assoc (Some a) b c = refl

pub value-append : {V : Type 0} (name : List ℕ) (es fs : List (List ℕ × V)) → value_of name (es ++ fs) ≡ or_else (value_of name es) (value_of name fs)
value-append name [] fs = refl
value-append name (e ∷ es) fs = by (same_text name e.0) (value-append name es fs)
  where
    by : (b : Bool) → value_of name (es ++ fs) ≡ or_else (value_of name es) (value_of name fs)
        → cond b (Some e.1) (value_of name (es ++ fs)) ≡ or_else (cond b (Some e.1) (value_of name es)) (value_of name fs)
    by true h = refl
    by false h = h

module _ {V : Type 0} (same_of : (a b : List ℕ) → same_text a b ≡ true → a ≡ b) where
  -- a pair that isn't put in changes no look-up
  value-put_first : (name : List ℕ) (rows : List (List ℕ × V)) (r : List ℕ × V) → value_of name (put_first rows r) ≡ or_else (value_of name rows) (value_of name (r ∷ []))
  value-put_first name rows r = by (is_some (value_of r.0 rows)) refl
    where
      hit : (same : Bool) → same_text name r.0 ≡ same → is_some (value_of r.0 rows) ≡ true
          → value_of name rows ≡ or_else (value_of name rows) (cond same (Some r.1) None)
      hit false e h = other (value_of name rows)
        where
          other : (o : Option V) → o ≡ or_else o None
          other None = refl
          other (Some x) = refl
      hit true e h =
          let there : is_some (value_of name rows) ≡ true = ap (λ n. is_some (value_of n rows)) (same_of name r.0 e) ∙ h in
          there_or (value_of name rows) there
        where
          there_or : (o : Option V) → is_some o ≡ true → o ≡ or_else o (Some r.1)
          there_or None h = cc
          there_or (Some x) h = refl

      by : (b : Bool) → is_some (value_of r.0 rows) ≡ b → value_of name (cond b rows (rows ++ r ∷ [])) ≡ or_else (value_of name rows) (value_of name (r ∷ []))
      by true h = hit (same_text name r.0) refl h
      by false h = value-append name rows (r ∷ [])

  value-put_each : (name : List ℕ) (rows rs : List (List ℕ × V)) → value_of name (put_all rows rs) ≡ or_else (value_of name rows) (value_of name rs)
  value-put_each name rows [] = other (value_of name rows)
    where
      other : (o : Option V) → o ≡ or_else o None
      other None = refl
      other (Some x) = refl
  value-put_each name rows (r ∷ rs) =
      value-put_each name (put_first rows r) rs
      ∙ ap (λ o. or_else o (value_of name rs)) (value-put_first name rows r)
      ∙ or_else-assoc (value_of name rows) (value_of name (r ∷ [])) (value_of name rs)
      ∙ ap (or_else (value_of name rows)) (sym (value-append name (r ∷ []) rs))

-- in a table of the first pairs each name has the value that it has in the list
pub value-put_all : {V : Type 0} (name : List ℕ) (rs : List (List ℕ × V)) → value_of name (put_all [] rs) ≡ value_of name rs
value-put_all name rs = value-put_each (λ a b h. (texts_decides a b).0 h) name [] rs
