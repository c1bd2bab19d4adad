-- Which versions a version reference takes (R6RS 7.1).
use Rattle.std.specs.Prelude.{◌≡◌, ◌≤◌, ◌↔◌, ℕ, true, List, [], ◌∷◌, Option, Some, None, is_some, slice_get, codes}
use Rattle.base_data.specs.declared.span.Span.{Span}
use Rattle.base_data.specs.Datum.{PlainDatum, symbol, symbol_text, proper_elements}
use Rattle.load_forms.specs.Name.{number}
use Rattle.load_forms.specs.Version.{number_fits, fits, is_reference, version_fits, yes}

-- a list of a word and these parts
abbrev pub IsWorded : List ℕ → List PlainDatum → PlainDatum → Type 0
IsWorded word parts d = (s : Option Span) × (proper_elements d ≡ Some (symbol s word ∷ parts))

-- no word stands first
abbrev pub IsWordless : List PlainDatum → Type 0
IsWordless [] = Unit {0}
IsWordless (d ∷ ds) = symbol_text d ≡ None

-- ---- whole versions

abbrev pub Fits : List ℕ → PlainDatum → Type 0
Fits v d = version_fits v d ≡ true

-- Whether a datum is a reference doesn't depend on the version.
abbrev pub VersionsMakeNoReference : Type 0
VersionsMakeNoReference = (v : List ℕ) (d : PlainDatum) → is_some (fits v d) ≡ is_reference d

-- `(and ...)` fits exactly where each part fits.
abbrev pub AndFitsWhereAllDo : Type 0
AndFitsWhereAllDo = (v : List ℕ) (parts : List PlainDatum) (d : PlainDatum) → IsWorded (codes "and") parts d
    → Fits v d ↔ ((i : ℕ) (part : PlainDatum) → slice_get parts i ≡ Some part → Fits v part)

-- `(or ...)` fits exactly where a part fits.
abbrev pub OrFitsWhereOneDoes : Type 0
OrFitsWhereOneDoes = (v : List ℕ) (parts : List PlainDatum) (d : PlainDatum) → IsWorded (codes "or") parts d → is_reference d ≡ true
    → Fits v d ↔ ((i : ℕ) × (part : PlainDatum) × (slice_get parts i ≡ Some part) × Fits v part)

-- `(not ...)` has one part, and fits exactly where that doesn't.
abbrev pub NotFitsWhereItsPartDoesNot : Type 0
NotFitsWhereItsPartDoesNot = (v : List ℕ) (part d : PlainDatum) → IsWorded (codes "not") (part ∷ []) d → is_reference d ≡ true → Fits v d ↔ (Fits v part → ⊥)

abbrev pub NumberFits : ℕ → PlainDatum → Type 0
NumberFits n d = yes (number_fits n d) ≡ true

-- Other references fit exactly where the version has a number at the place of each part, which fits it: a longer version fits too.
abbrev pub ListFitsByPlaces : Type 0
ListFitsByPlaces = (v : List ℕ) (parts : List PlainDatum) (d : PlainDatum) → proper_elements d ≡ Some parts → IsWordless parts
    → Fits v d ↔ ((i : ℕ) (part : PlainDatum) → slice_get parts i ≡ Some part → (n : ℕ) × (slice_get v i ≡ Some n) × NumberFits n part)

-- ---- one number of a version

abbrev pub IsPart : PlainDatum → Type 0
IsPart d = is_some (number_fits 0 d) ≡ true

-- Whether a datum is a part of a reference doesn't depend on the number.
abbrev pub NumbersMakeNoPart : Type 0
NumbersMakeNoPart = (n : ℕ) (d : PlainDatum) → is_some (number_fits n d) ≡ is_some (number_fits 0 d)

-- A number fits itself.
abbrev pub NumberFitsItself : Type 0
NumberFitsItself = (n m : ℕ) (d : PlainDatum) → number d ≡ Some m → NumberFits n d ↔ (n ≡ m)

-- `(>= m)` fits from m on, and `(<= m)` up to m.
abbrev pub SignsCompare : Type 0
SignsCompare = (n m : ℕ) (e d : PlainDatum) → number e ≡ Some m
    → (IsWorded (codes ">=") (e ∷ []) d → NumberFits n d ↔ (m ≤ n)) × (IsWorded (codes "<=") (e ∷ []) d → NumberFits n d ↔ (n ≤ m))

abbrev pub AndFitsNumbers : Type 0
AndFitsNumbers = (n : ℕ) (parts : List PlainDatum) (d : PlainDatum) → IsWorded (codes "and") parts d
    → NumberFits n d ↔ ((i : ℕ) (part : PlainDatum) → slice_get parts i ≡ Some part → NumberFits n part)

abbrev pub OrFitsNumbers : Type 0
OrFitsNumbers = (n : ℕ) (parts : List PlainDatum) (d : PlainDatum) → IsWorded (codes "or") parts d → IsPart d
    → NumberFits n d ↔ ((i : ℕ) × (part : PlainDatum) × (slice_get parts i ≡ Some part) × NumberFits n part)

abbrev pub NotFitsNumbers : Type 0
NotFitsNumbers = (n : ℕ) (part d : PlainDatum) → IsWorded (codes "not") (part ∷ []) d → IsPart d → NumberFits n d ↔ (NumberFits n part → ⊥)
