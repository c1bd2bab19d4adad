-- Bindings as a finite map from labels, in the order of coming.
use Rattle.std.specs.Prelude.{Bool, true, false, List, [], ◌∷◌, ◌++◌, Option, is_some, if◌then◌else◌}
use Rattle.std.specs.Map.{lookup}
use Rattle.std.specs.Coded.{Coded, coded_list, coded×}
use Rattle.base_data.specs.declared.name.Label.{Label}
use Rattle.base_data.specs.contracts.name.Label as labels
use Rattle.core_language.specs.declared.binding.Binding.{Binding}
use Rattle.core_language.specs.contracts.binding.Binding as bindings
use Rattle.core_language.specs.Labels.{same_label}

abbrev pub bindings_code : Coded (List (Label × Binding))
bindings_code = coded_list (coded× labels.the_row.coded bindings.the_row.coded)

-- what a label is bound to
abbrev pub bound_to : List (Label × Binding) → Label → Option Binding
bound_to es l = lookup (same_label l) es

-- whether the labels of rows are bound neither there nor by an earlier one of them
abbrev pub are_new : List (Label × Binding) → List (Label × Binding) → Bool
are_new es [] = true
are_new es (r ∷ rs) = if is_some (bound_to es r.0) then false else are_new (es ++ r ∷ []) rs
