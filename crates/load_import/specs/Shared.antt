-- The names of a library that many import sets of a form share, and those that are still to be joined to the form's.
use Rattle.std.specs.Prelude.{◌≡◌, ℕ, Bool, nat_eq, List, [], ◌∷◌, ◌++◌, filter, map, Option, Some, None, Result, position, slice_get}
use Rattle.std.specs.List.{list_any, filter_map}
use Rattle.std.specs.Map.{keys_of}
use Rattle.base_data.specs.Gives.{◌>>=◌}
use Rattle.base_data.specs.declared.fault.Fault.{Fault}
use Rattle.base_data.specs.declared.imported_name.ImportedName.{ImportedName}
use Rattle.base_data.specs.declared.span.Span.{Span}
use Rattle.load_import.specs.Names.{Labelled, same_label, step_names, joined}
use Rattle.load_import.specs.Table.{same_text}
use Rattle.load_import.specs.Turns.{turns}
use Rattle.load_import.specs.declared.set.NameAt.{NameAt}
use Rattle.load_import.specs.declared.set.ImportStep.{ImportStep}

-- the names that the steps of an import set leave of these, joined to others
abbrev pub steps_joined : Span → Labelled → Labelled → List ImportStep → Result Labelled Fault
steps_joined span all names steps = turns (step_names span) names steps >>= joined span all

-- these names are enough to join in place of all of a library, and of any part of all: the others are joined
abbrev pub IsEnough : Labelled → Labelled → Labelled → Type 0
IsEnough all names fresh = (span : Span) (more : Labelled) (test : ImportedName → Bool)
    → joined span (all ++ more) (filter test names) ≡ joined span (all ++ more) (filter test fresh)

abbrev pub IsEnoughIf : Labelled → Labelled → Option Labelled → Type 0
IsEnoughIf all names None = Unit {0}
IsEnoughIf all names (Some fresh) = IsEnough all names fresh

-- the place of a name
abbrev pub place_of : {V : Type 0} → List ℕ → List (List ℕ × V) → Option ℕ
place_of name rows = position (same_text name) (keys_of rows)

-- each name stands once, so that its place is its own
abbrev pub IsOwn : {V : Type 0} → List (List ℕ × V) → Type 0
IsOwn {V} rows = (k : ℕ) (e : List ℕ × V) → slice_get rows k ≡ Some e → place_of e.0 rows ≡ Some k

-- the place of a name with its label
abbrev pub place_named : List ℕ → Labelled → Option ℕ
place_named name names = position (same_text name) (map (λ (e : ImportedName). e.name) names)

-- each of these names stands once, so that its place is its own
abbrev pub AreOwn : Labelled → Type 0
AreOwn names = (k : ℕ) (e : ImportedName) → slice_get names k ≡ Some e → place_named e.name names ≡ Some k

abbrev pub places_of : List NameAt → Labelled → List ℕ
places_of ids names = filter_map (λ id. place_named id.name names) ids

abbrev pub among : ℕ → List ℕ → Bool
among n ns = list_any (λ m. nat_eq m n) ns

-- the names at these places
abbrev pub names_at : Labelled → List ℕ → Labelled
names_at names places = filter_map (slice_get names) places
