-- The labels of what is defined and what is no definition, in order.
use Rattle.std.proofs.Common.{List, [], ◌∷◌, Option, None, Some}
use Rattle.base_data.specs.declared.name.Label.{Label}

abbrev pub kind_labels : List (Option Label) → List Label
kind_labels [] = []
kind_labels (None ∷ ks) = kind_labels ks
kind_labels (Some l ∷ ks) = l ∷ kind_labels ks

abbrev pub HasValue : List (Option Label) → Type 0
HasValue [] = ⊥
HasValue (None ∷ ks) = Unit {0}
HasValue (Some l ∷ ks) = HasValue ks
