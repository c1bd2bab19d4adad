-- The steps of import sets.
use Rattle.std.proofs.Common.{◌≡◌, ℕ, ◌+◌, ◌<◌, ◌≤◌, List, [], ◌∷◌, ◌++◌, Bool, true, false, cond, length, get_or, take, drop, map, refl, sym, ap, subst, ◌∙◌, append_assoc}
use Rattle.std.specs.Prelude.{is_some, Option, None, Some, Result, Ok, Err, slice_get, not, filter, ◌||◌, if◌then◌else◌}
use Rattle.std.specs.List.{find, list_any}
use Rattle.std.proofs.lemmas.List.{drop_all, append-nil}
use Rattle.std.proofs.Math.Seq.{take-append_seam}
use Rattle.base_data.specs.Gives.{Stops, Gives}
use Rattle.base_data.specs.declared.fault.Fault.{Fault}
use Rattle.base_data.specs.declared.fault.Stop.{Stop}
use Rattle.base_data.specs.declared.fault.Stop.TheVariants as stops
use Rattle.base_data.specs.Same.{same_name}
use Rattle.base_data.specs.declared.imported_name.ImportedName.{ImportedName}
use Rattle.base_data.specs.declared.name.Label.{Label}
use Rattle.base_data.specs.declared.span.Span.{Span}
use Rattle.load_import.specs.Names.{Labelled, label_named, put_each, need, need_by, has_name, is_among, missing_at, pairs_of, conflict, join_by, join_one}
use Rattle.load_import.specs.Table.{value_of, put_all, put_first, same_text}
use Rattle.load_import.specs.declared.set.NameAt.{NameAt}
use Rattle.load_import.specs.declared.set.Renaming.{Renaming}
use Rattle.load_import.proofs.ImportedLemmas.{label-put_each}
use Rattle.load_import.proofs.TableLemmas.{value-put_all}
use Rattle.load_import.proofs.TurnLemmas.{cons_at, got}

abbrev pub is_absent : Labelled → NameAt → Bool
is_absent names id = not (has_name names id.name)

-- identifiers alone, as pairs with nothing
abbrev pub asked_for : List NameAt → List (List ℕ × Unit {0})
asked_for ids = map (λ id. (id.name, tt)) ids

has-asked : (name : List ℕ) (ids : List NameAt) → is_some (value_of name (asked_for ids)) ≡ is_among ids name
has-asked name [] = refl
has-asked name (id ∷ ids) = by (same_text name id.name) (has-asked name ids)
  where
    by : (b : Bool) → is_some (value_of name (asked_for ids)) ≡ is_among ids name → is_some (cond b (Some tt) (value_of name (asked_for ids))) ≡ (b || is_among ids name)
    by true h = refl
    by false h = h

pub has-table : (names table : Labelled) → table ≡ put_each [] names → (name : List ℕ) → has_name table name ≡ has_name names name
has-table names table is name = ap (λ t. has_name t name) is ∙ ap is_some (label-put_each name names)

pub among-table : (ids : List NameAt) (table : List (List ℕ × Unit {0})) → table ≡ put_all [] (asked_for ids) → (name : List ℕ) → is_some (value_of name table) ≡ is_among ids name
among-table ids table is name = ap (λ t. is_some (value_of name t)) is ∙ ap is_some (value-put_all name (asked_for ids)) ∙ has-asked name ids

pub renaming-table : (renamings : List Renaming) (table : List (List ℕ × List ℕ)) → table ≡ put_all [] (pairs_of renamings) → (name : List ℕ) → value_of name table ≡ value_of name (pairs_of renamings)
renaming-table renamings table is name = ap (value_of name) is ∙ value-put_all name (pairs_of renamings)

-- the search for an identifier whose name is absent
pub absent_on : (names : Labelled) (ids : List NameAt) (i : ℕ) (id : NameAt) (whole : Option NameAt) → i < length ids → id ≡ get_or ids i id → has_name names id.name ≡ true
    → find (is_absent names) (drop i ids) ≡ whole → find (is_absent names) (drop (i + 1) ids) ≡ whole
absent_on names ids i id whole h e has so_far =
    sym (ap (find (is_absent names)) (cons_at ids i id h e) ∙ ap (λ b. cond (not b) (Some id) (find (is_absent names) (drop (i + 1) ids))) has) ∙ so_far

pub absent_here : (names : Labelled) (ids : List NameAt) (i : ℕ) (id : NameAt) (whole : Option NameAt) → i < length ids → id ≡ get_or ids i id → has_name names id.name ≡ false
    → find (is_absent names) (drop i ids) ≡ whole → whole ≡ Some id
absent_here names ids i id whole h e has so_far =
    sym so_far ∙ ap (find (is_absent names)) (cons_at ids i id h e) ∙ ap (λ b. cond (not b) (Some id) (find (is_absent names) (drop (i + 1) ids))) has

pub absent_none : (names : Labelled) (ids : List NameAt) (i : ℕ) (whole : Option NameAt) → length ids ≤ i → find (is_absent names) (drop i ids) ≡ whole → whole ≡ None
absent_none names ids i whole h so_far = sym so_far ∙ ap (find (is_absent names)) (drop_all i ids h)

-- nothing is missing
abbrev pub fine : Result (Unit {0}) Fault
fine = Ok tt

-- what is needed, and then the rest
pub need_met : {A : Type 0} (names : Labelled) (ids : List NameAt) (x : Result A Fault) → need names ids fine ≡ fine → need names ids x ≡ x
need_met {A} names ids x h = by (find (is_absent names) ids) h
  where
    by : (o : Option NameAt) → need_by o fine ≡ fine → need_by o x ≡ x
    by None h = refl
    by (Some id) h = cc

pub need_stops : {A : Type 0} (names : Labelled) (ids : List NameAt) (x : Result A Fault) (stop : Stop) → Stops stop (need names ids fine) → Stops stop (need names ids x)
need_stops names ids x stops.Memory h = tt
need_stops {A} names ids x (stops.Fault f) h = by (find (is_absent names) ids) h
  where
    by : (o : Option NameAt) → need_by o fine ≡ Err f → need_by o x ≡ Err f
    by None h = cc
    by (Some id) h = let e : missing_at id ≡ f = cc in ap Err e

-- names that have the same as others need the same
pub need_same : {A : Type 0} (others names : Labelled) (ids : List NameAt) (x : Result A Fault) → ((name : List ℕ) → has_name others name ≡ has_name names name) → need others ids x ≡ need names ids x
need_same others names ids x h = ap (λ o. need_by o x) (same ids)
  where
    same : (ids : List NameAt) → find (is_absent others) ids ≡ find (is_absent names) ids
    same [] = refl
    same (id ∷ ids) = ap (λ b. cond (not b) (Some id) (find (is_absent others) ids)) (h id.name) ∙ ap (λ o. cond (not (has_name names id.name)) (Some id) o) (same ids)

-- one more name, where it passes a test
pub filter_on : (test : ImportedName → Bool) (names : Labelled) (i : ℕ) (row : ImportedName) (rows new whole : Labelled) → i < length names → row ≡ get_or names i row
    → new ≡ rows ++ (if test row then row ∷ [] else []) → rows ++ filter test (drop i names) ≡ whole → new ++ filter test (drop (i + 1) names) ≡ whole
filter_on test names i row rows new whole h e made so_far =
    ap (λ r. r ++ filter test (drop (i + 1) names)) made ∙ by (test row) ∙ sym (ap (λ r. rows ++ filter test r) (cons_at names i row h e)) ∙ so_far
  where
    by : (b : Bool) → (rows ++ (if b then row ∷ [] else [])) ++ filter test (drop (i + 1) names) ≡ rows ++ cond b (row ∷ filter test (drop (i + 1) names)) (filter test (drop (i + 1) names))
    by true = append_assoc rows (row ∷ []) (filter test (drop (i + 1) names))
    by false = append_assoc rows [] (filter test (drop (i + 1) names))

-- a name that is there already
pub join_over : (span : Span) (all : Labelled) (row : ImportedName) (label : Label) (r : Result (Unit {0}) Stop) → label_named row.name all ≡ Some label
    → Gives (λ u. u) r (if same_name label.0 row.label.0 then Ok tt else Err (conflict span row.name)) → Gives (λ _. all) r (join_one span all row)
join_over span all row label r there given =
    subst (λ o. Gives (λ _. all) r (join_by span all row o)) (sym there) (by (same_name label.0 row.label.0) r given)
  where
    by : (b : Bool) (r : Result (Unit {0}) Stop) → Gives (λ u. u) r (if b then Ok tt else Err (conflict span row.name)) → Gives (λ _. all) r (if b then Ok all else Err (conflict span row.name))
    by true (Ok u) h = refl
    by true (Err stops.Memory) h = tt
    by true (Err (stops.Fault f)) h = cc
    by false (Ok u) h = cc
    by false (Err stops.Memory) h = tt
    by false (Err (stops.Fault f)) h = let e : conflict span row.name ≡ f = cc in ap Err e

-- one more name of a table
pub row_on : (names : Labelled) (i : ℕ) (row : ImportedName) (rows : Labelled) → slice_get names i ≡ Some row → rows ++ drop i names ≡ names → (rows ++ row ∷ []) ++ drop (i + 1) names ≡ names
row_on names i row rows there so_far = append_assoc rows (row ∷ []) (drop (i + 1) names) ∙ sym (ap (λ r. rows ++ r) (got names i row there)) ∙ so_far

-- what was there before more names came
pub kept_front : (old new more : Labelled) (n : ℕ) → n ≡ length old → new ≡ old ++ more → take n new ≡ old
kept_front old new more n size is = ap (λ k. take k new) size ∙ ap (take (length old)) is ∙ take-append_seam old more
