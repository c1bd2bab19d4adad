-- What `prefix` and `rename` give, and that an import set gives each name once (R6RS 7.1).
use Rattle.std.specs.Prelude.{◌≡◌, ◌↔◌, ℕ, List, [], ◌++◌, Some, Ok, option_map, slice_get}
use Rattle.base_data.specs.declared.imported_name.ImportedName.{ImportedName}
use Rattle.base_data.specs.declared.name.Label.{Label}
use Rattle.base_data.specs.declared.span.Span.{Span}
use Rattle.load_import.specs.Names.{Labelled, label_named, put_each, prefixed, renamed, new_name, joined, import_names}
use Rattle.load_import.specs.declared.set.ImportSet.{ImportSet}
use Rattle.load_import.specs.declared.set.Renaming.{Renaming}
use Rattle.law_imports.specs.Algebra.{IsOnce}

-- ---- prefix

-- Each name stays at its place and keeps its label.
abbrev pub PrefixMovesEachInPlace : Type 0
PrefixMovesEachInPlace = (p : List ℕ) (names : Labelled) (i : ℕ) → slice_get (prefixed p names) i ≡ option_map (λ (e : ImportedName). record { name = p ++ e.name; label = e.label }) (slice_get names i)

-- What stands for a label is the prefix with a name that stood for it.
abbrev pub PrefixLeavesNoneWithout : Type 0
PrefixLeavesNoneWithout = (p : List ℕ) (names : Labelled) (m : List ℕ) (l : Label) → label_named m (prefixed p names) ≡ Some l
    → (n : List ℕ) × (p ++ n ≡ m) × (label_named n names ≡ Some l)

abbrev pub PrefixKeepsNamesOnce : Type 0
PrefixKeepsNamesOnce = (p : List ℕ) (names : Labelled) → IsOnce names → IsOnce (prefixed p names)

-- ---- rename

-- the names after a rename
abbrev pub IsRenamed : List Renaming → Labelled → Labelled → Type 0
IsRenamed rs names r = (span : Span) × (joined span [] (renamed rs names) ≡ Ok r)

abbrev pub RenameGivesEachOnce : Type 0
RenameGivesEachOnce = (rs : List Renaming) (names r : Labelled) → IsRenamed rs names r → IsOnce r

-- What stands for a label is a name that stood for it, renamed.
abbrev pub RenameKeepsLabels : Type 0
RenameKeepsLabels = (rs : List Renaming) (names r : Labelled) → IsOnce names → IsRenamed rs names r → (m : List ℕ) (l : Label)
    → (label_named m r ≡ Some l) ↔ ((n : List ℕ) × (new_name rs n ≡ m) × (label_named n names ≡ Some l))

-- The order is that of the names before, each at its first place.
abbrev pub RenameKeepsOrder : Type 0
RenameKeepsOrder = (rs : List Renaming) (names r : Labelled) → IsRenamed rs names r → r ≡ put_each [] (renamed rs names)

-- Two names become one only where they stand for one label.
abbrev pub RenameKeepsLabelsApart : Type 0
RenameKeepsLabelsApart = (rs : List Renaming) (names r : Labelled) → IsRenamed rs names r → (n m : List ℕ) (l k : Label)
    → label_named n names ≡ Some l → label_named m names ≡ Some k → new_name rs n ≡ new_name rs m → l ≡ k

-- Where no two become one, it gives just the renamed names.
abbrev pub RenameIsOneToOne : Type 0
RenameIsOneToOne = (span : Span) (rs : List Renaming) (names : Labelled) → IsOnce (renamed rs names) → joined span [] (renamed rs names) ≡ Ok (renamed rs names)

-- ---- a whole import set

abbrev pub ImportsGiveEachOnce : Type 0
ImportsGiveEachOnce = (set : ImportSet) (span : Span) (exports names : Labelled) → import_names set span exports ≡ Ok names → IsOnce names
