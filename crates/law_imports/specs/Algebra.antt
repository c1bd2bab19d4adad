-- What import sets do, seen as finite maps from names to labels.
use Rattle.std.specs.Prelude.{◌≡◌, false, [], ◌∷◌, ◌++◌, Option, Some, None, is_some}
use Rattle.base_data.specs.declared.fault.Fault.{Fault}
use Rattle.base_data.specs.declared.imported_name.ImportedName.{ImportedName}
use Rattle.base_data.specs.declared.name.Label.{Label}
use Rattle.base_data.specs.declared.span.Span.{Span}
use Rattle.load_import.specs.Names.{Labelled, label_named, conflict}

abbrev pub or_else : {A : Type 0} → Option A → Option A → Option A
or_else None b = b
or_else (Some a) b = Some a

-- no name stands twice
abbrev pub IsOnce : Labelled → Type 0
IsOnce [] = Unit {0}
IsOnce (e ∷ es) = (is_some (label_named e.name es) ≡ false) × IsOnce es

-- each of some names stands for its label
abbrev pub Has : Labelled → Labelled → Type 0
Has names [] = Unit {0}
Has names (e ∷ es) = (label_named e.name names ≡ Some e.label) × Has names es

-- an entry among some more, whose name stood before for another label
abbrev pub Conflicts : Span → Labelled → Labelled → Fault → Type 0
Conflicts span all more fault = (before after : Labelled) × (e : ImportedName) × (l : Label) × (more ≡ before ++ e ∷ after)
    × (label_named e.name (all ++ before) ≡ Some l) × (l ≡ e.label → ⊥) × (fault ≡ conflict span e.name)
