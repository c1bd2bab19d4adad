-- Names with their labels: look-ups, and the table that holds them.
use Rattle.std.proofs.Common.{◌≡◌, ◌∙◌, refl, sym, ap, ℕ, zero, suc, cond, List, [], ◌∷◌, ◌++◌, length, take, map}
use Rattle.std.specs.Prelude.{Bool, true, false, Option, None, Some, is_some, option_map, slice_get, position}
use Rattle.std.specs.Borrow.{Bor}
use Rattle.std.specs.Map.{keys_of}
use Rattle.std.proofs.lemmas.Option.{same_Some, none-some, slice_get-map}
use Rattle.base_data.specs.Same.{texts_decides}
use Rattle.base_data.specs.declared.imported_name.ImportedName.{ImportedName}
use Rattle.base_data.specs.declared.name.Label.{Label}
use Rattle.load_import.specs.Imported.{imported_name, imported, imported_now}
use Rattle.load_import.specs.Names.{Labelled, label_named, has_name, put_named, put_each}
use Rattle.load_import.specs.Shared.{place_of, IsOwn, place_named, AreOwn}
use Rattle.load_import.specs.Table.{same_text, value_of, put_first, pair_now}
use Rattle.load_import.proofs.TableLemmas.{or_else, or_else-assoc}

-- ---- look-ups

pub label-append : (name : List ℕ) (es fs : Labelled) → label_named name (es ++ fs) ≡ or_else (label_named name es) (label_named name fs)
label-append name [] fs = refl
label-append name (e ∷ es) fs = by (same_text name e.name) (label-append name es fs)
  where
    by : (b : Bool) → label_named name (es ++ fs) ≡ or_else (label_named name es) (label_named name fs)
        → cond b (Some e.label) (label_named name (es ++ fs)) ≡ or_else (cond b (Some e.label) (label_named name es)) (label_named name fs)
    by true h = refl
    by false h = h

or_none : (o : Option Label) → o ≡ or_else o None
or_none None = refl
or_none (Some x) = refl

-- a name that isn't put in changes no look-up
label-put_named : (name : List ℕ) (es : Labelled) (e : ImportedName) → label_named name (put_named es e) ≡ or_else (label_named name es) (label_named name (e ∷ []))
label-put_named name es e = by (is_some (label_named e.name es)) refl
  where
    hit : (same : Bool) → same_text name e.name ≡ same → is_some (label_named e.name es) ≡ true
        → label_named name es ≡ or_else (label_named name es) (cond same (Some e.label) None)
    hit false s h = or_none (label_named name es)
    hit true s h =
        let there : is_some (label_named name es) ≡ true = ap (λ n. is_some (label_named n es)) ((texts_decides name e.name).0 s) ∙ h in
        there_or (label_named name es) there
      where
        there_or : (o : Option Label) → is_some o ≡ true → o ≡ or_else o (Some e.label)
        there_or None h = cc
        there_or (Some x) h = refl

    by : (b : Bool) → is_some (label_named e.name es) ≡ b → label_named name (cond b es (es ++ e ∷ [])) ≡ or_else (label_named name es) (label_named name (e ∷ []))
    by true h = hit (same_text name e.name) refl h
    by false h = label-append name es (e ∷ [])

label-put_onto : (name : List ℕ) (es fs : Labelled) → label_named name (put_each es fs) ≡ or_else (label_named name es) (label_named name fs)
label-put_onto name es [] = or_none (label_named name es)
label-put_onto name es (f ∷ fs) =
    label-put_onto name (put_named es f) fs
    ∙ ap (λ o. or_else o (label_named name fs)) (label-put_named name es f)
    ∙ or_else-assoc (label_named name es) (label_named name (f ∷ [])) (label_named name fs)
    ∙ ap (or_else (label_named name es)) (sym (label-append name (f ∷ []) fs))

-- among the first of each name a name stands for what it stands for in the list
pub label-put_each : (name : List ℕ) (es : Labelled) → label_named name (put_each [] es) ≡ label_named name es
label-put_each name es = label-put_onto name [] es

-- ---- the rows of a table

label-imported : (name : List ℕ) (rows : List (List ℕ × Label)) → label_named name (imported rows) ≡ value_of name rows
label-imported name [] = refl
label-imported name (r ∷ rows) = ap (λ o. cond (same_text name r.0) (Some r.1) o) (label-imported name rows)

imported-append : (rows more : List (List ℕ × Label)) → imported (rows ++ more) ≡ imported rows ++ imported more
imported-append [] more = refl
imported-append (r ∷ rows) more = ap (λ es. imported_name r ∷ es) (imported-append rows more)

names-imported : (rows : List (List ℕ × Label)) → map (λ (e : ImportedName). e.name) (imported rows) ≡ keys_of rows
names-imported [] = refl
names-imported (r ∷ rows) = ap (λ names. r.0 ∷ names) (names-imported rows)

place-imported : (name : List ℕ) (rows : List (List ℕ × Label)) → place_named name (imported rows) ≡ place_of name rows
place-imported name rows = ap (position (same_text name)) (names-imported rows)

length-imported : (rows : List (List ℕ × Label)) → length (imported rows) ≡ length rows
length-imported [] = refl
length-imported (r ∷ rows) = ap suc (length-imported rows)

take-imported : (n : ℕ) (rows : List (List ℕ × Label)) → imported (take n rows) ≡ take n (imported rows)
take-imported zero rows = refl
take-imported (suc n) [] = refl
take-imported (suc n) (r ∷ rows) = ap (λ es. imported_name r ∷ es) (take-imported n rows)

at-imported : (o : Option (Bor (List ℕ) × Bor Label)) → option_map imported_now o ≡ option_map imported_name (option_map pair_now o)
at-imported None = refl
at-imported (Some row) = refl

-- what holds of the rows of a table holds of its names
module _ (rows : List (List ℕ × Label)) (names : Labelled) (is : imported rows ≡ names) where
  pub size_by : (n : ℕ) → n ≡ length rows → n ≡ length names
  size_by n h = h ∙ sym (length-imported rows) ∙ ap length is

  pub label_by : (name : List ℕ) (o : Option Label) → o ≡ value_of name rows → o ≡ label_named name names
  label_by name o h = h ∙ sym (label-imported name rows) ∙ ap (label_named name) is

  pub none_by : (name : List ℕ) → label_named name names ≡ None → value_of name rows ≡ None
  none_by name h = sym (label-imported name rows) ∙ ap (label_named name) is ∙ h

  pub place_by : (name : List ℕ) (o : Option ℕ) → o ≡ place_of name rows → o ≡ place_named name names
  place_by name o h = h ∙ sym (place-imported name rows) ∙ ap (place_named name) is

  pub own_by : IsOwn rows → AreOwn names
  own_by own k e at = by (slice_get rows k) refl (sym (slice_get-map imported_name rows k) ∙ ap (λ es. slice_get es k) is ∙ at)
    where
      by : (o : Option (List ℕ × Label)) → slice_get rows k ≡ o → option_map imported_name o ≡ Some e → place_named e.name names ≡ Some k
      by None there h = absurd (none-some e h)
      by (Some r) there h =
          let same : r.0 ≡ e.name = ap (λ (x : ImportedName). x.name) (same_Some (imported_name r) e h) in
          ap (place_named e.name) (sym is) ∙ ap (λ n. place_named n (imported rows)) (sym same) ∙ place-imported r.0 rows ∙ own k r there

  pub at_by : (o : Option (Bor (List ℕ) × Bor Label)) (place : ℕ) → option_map pair_now o ≡ slice_get rows place → option_map imported_now o ≡ slice_get names place
  at_by o place h = at-imported o ∙ ap (option_map imported_name) h ∙ sym (slice_get-map imported_name rows place) ∙ ap (λ es. slice_get es place) is

  pub put_by : (name : List ℕ) (label : Label) (new : List (List ℕ × Label)) → new ≡ put_first rows (name, label) → imported new ≡ put_named names (record { name = name; label = label })
  put_by name label new made = ap imported made ∙ here (is_some (value_of name rows)) refl ∙ ap (λ es. put_named es row) is
    where
      row : ImportedName
      row = record { name = name; label = label }

      there : has_name (imported rows) name ≡ is_some (value_of name rows)
      there = ap is_some (label-imported name rows)

      here : (b : Bool) → is_some (value_of name rows) ≡ b → imported (cond b rows (rows ++ (name, label) ∷ [])) ≡ put_named (imported rows) (record { name = name; label = label })
      here true h = sym (ap (λ c. cond {A = Labelled} c (imported rows) (imported rows ++ record { name = name; label = label } ∷ [])) (there ∙ h))
      here false h =
          imported-append rows ((name, label) ∷ [])
          ∙ sym (ap (λ c. cond {A = Labelled} c (imported rows) (imported rows ++ record { name = name; label = label } ∷ [])) (there ∙ h))

  pub new_by : (name : List ℕ) (label : Label) (new : List (List ℕ × Label)) → new ≡ rows ++ (name, label) ∷ [] → imported new ≡ names ++ record { name = name; label = label } ∷ []
  new_by name label new made = ap imported made ∙ imported-append rows ((name, label) ∷ []) ∙ ap (λ es. es ++ record { name = name; label = label } ∷ []) is

  pub kept_by : (new : List (List ℕ × Label)) → new ≡ rows → imported new ≡ names
  kept_by new same = ap imported same ∙ is

  pub take_by : (n : ℕ) (new : List (List ℕ × Label)) → new ≡ take n rows → imported new ≡ take n names
  take_by n new made = ap imported made ∙ take-imported n rows ∙ ap (take n) is
