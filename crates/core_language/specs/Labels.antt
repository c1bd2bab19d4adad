-- Lists of labels, each once, in the order of coming.
use Rattle.std.specs.Prelude.{Bool, not, List, [], ◌∷◌, ◌++◌, filter, if◌then◌else◌}
use Rattle.std.specs.List.{list_any}
use Rattle.base_data.specs.Same.{same_name}
use Rattle.base_data.specs.declared.name.Label.{Label}

abbrev pub same_label : Label → Label → Bool
same_label l m = same_name l.0 m.0

abbrev pub has_label : List Label → Label → Bool
has_label ls l = list_any (same_label l) ls

-- the label at the end, where it isn't there
abbrev pub with_label : List Label → Label → List Label
with_label ls l = if has_label ls l then ls else ls ++ l ∷ []

abbrev pub with_labels : List Label → List Label → List Label
with_labels ls [] = ls
with_labels ls (m ∷ ms) = with_labels (with_label ls m) ms

-- those that aren't among these
abbrev pub without : List Label → List Label → List Label
without ls ms = filter (λ m. not (has_label ls m)) ms
